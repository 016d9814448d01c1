-- `records::outline` meets its contract: an element by its number. Assumes nothing.
use mathlib.Core.Path.{sym, ◌∙◌}
use borrow.Author.Rules.{rules}
use Rattle.records.proofs.Outlined.{is_element}
use Rattle.records.proofs.outline.Goals as goal

pub returns-in-Element : goal.returns-in-Element
returns-in-Element c = is_element _ _ (search rules) (search rules) _ c.in-Element.number (sym c.in-Element.is ∙ c.read_type.ensures) c.element_outline.ensures
