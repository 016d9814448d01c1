-- `normal::rewriting::rewrite_columns` meets its contract, by the invariant. Assumes nothing.
use Rattle.std.proofs.Common.{◌≡◌, ℕ, ◌+◌, ◌<◌, ◌≤◌, List, length, get_or, drop, add-one, drop-cons}
use lib.ListN.{drop_of_length-le}
use Rattle.layouts.specs.declared.TableColumn.{TableColumn}
use Rattle.normal.specs.Rewriting.{rewritten_as, rewritten_all}
use Rattle.normal.proofs.rewriting.rewrite_columns.Goals as goal

module _ (l all : List ℕ) (t : List TableColumn) (i : ℕ) (left : rewritten_all l (drop i t) ≡ all) where
  again : (l' : List ℕ) (d : TableColumn) → l' ≡ rewritten_as l (get_or t i d).start (get_or t i d).width (get_or t i d).form → i < length t → rewritten_all l' (drop (i + 1) t) ≡ all
  unfolding rewritten_all
  again l' d e h = rw (e, add-one) (rw (drop-cons t i d h) at left)

  end : length t ≤ i → l ≡ all
  unfolding rewritten_all
  end h = rw (drop_of_length-le t h) at left

pub loop-column-preserved : goal.loop-column-preserved
loop-column-preserved c = again _ _ _ _ c.loop-column.invariant _ _ c.rewrite_column.ensures c.loop-column-test.true

pub returns : goal.returns
returns c = end _ _ _ _ c.loop-column.invariant c.loop-column-test.false
