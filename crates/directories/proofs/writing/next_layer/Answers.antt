-- `next_layer` goes from one header or item to the next. The loop's invariant is `Passing`, its measure the records left. Assumes nothing.
use Rattle.directories.proofs.Written.{passing, few_data, at_small, item-fits, layer-there, hops, hop_on, no_layer_lem}
use Rattle.directories.proofs.writing.next_layer.Goals as goal

pub loop-at-init : goal.loop-at-init
loop-at-init c = search passing

pub returns-then-is_layer : goal.returns-then-is_layer
returns-then-is_layer c = search layer-there

pub overflow_add-items : goal.overflow_add-items
overflow_add-items c = search item-fits

pub behind-at-requires : goal.behind-at-requires
behind-at-requires c = (search few_data, search at_small)

pub loop-at-smaller : goal.loop-at-smaller
loop-at-smaller c = search hop_on

pub loop-at-preserved : goal.loop-at-preserved
loop-at-preserved c = search hops

pub returns : goal.returns
returns c = search no_layer_lem
