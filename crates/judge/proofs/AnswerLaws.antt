-- What opening answers of a body, from what its walk ensures. Assumes nothing.
use Rattle.std.specs.Prelude.{Option, Some, None, Ok, Err}
use Rattle.std.specs.Option.{option_or}
use mathlib.Core.Path.{◌≡◌, refl, sym, ap, ◌∙◌}
use mathlib.Core.Bool.{Bool, true, false, cond, ◌&&◌}
use mathlib.Core.List.{List, [], ◌∷◌}
use Prim.Native.Nat.{ℕ, zero, suc, ◌+◌, ◌-◌, ◌≤◌, ◌<◌}
use native.Mathlib.Omega.{arith}
use native.Mathlib.Nat.{zero-add, add-zero}
use native.Mathlib.Numerals.{add-one}
use lib.Dec.{eqb}
use lib.ListN.{take, get_or, get_or-replicate}
use lib.Seq.{ext_get_or}
use Rattle.format.specs.Basics.{Fault, none, or_else, to_fault, unless}
use Rattle.format.specs.Reasons.{refusal_for}
use Rattle.format.specs.declared.Reason.TheVariants.{Count}
use Rattle.format.specs.declared.Refusal.{Refusal}
use Rattle.format.specs.Record.{View}
use Rattle.format.specs.Judge.{File, items, accepted, count_fault, body_fault, judge, due_after, is_header_at}
use Rattle.format.specs.Edit.{last_header}
use Rattle.format.specs.Above.{last_start}
use Rattle.format_directory.specs.declared.Edition.{Edition}
use Rattle.part_and_index.specs.Result.{SheetPart}
use Rattle.judge.specs.declared.body_records.Extent.{Extent}
use Rattle.judge.specs.declared.Sheet as Declared
use Rattle.judge.specs.declared.walk.WalkedLayers as Walk
use Rattle.judge.specs.Walks.{ExtentOf, views_from, fault_from, entries, wrong_at, up_to, body_of, wrong_sheet_of, Stands, standing_sheet, WalkedLayers, WholeBody, WholeListed, body_sheet, BodyAgainst, layers_said, against_said}
use Rattle.judge.specs.Sheet.{values, start_before, header_before, sheet_said}
use Rattle.format.proofs.Reasons.{not_zero}
use Rattle.judge.proofs.Steps.{views_end}
use Rattle.judge.proofs.Joined.{wrong_first}
use Rattle.judge.proofs.PlaceLaws.{length_views}

-- ---- the folds with all numbers so many higher
one_more : (m number : ℕ) → suc (m + number) ≡ m + suc number
one_more m number = omega arith

start_shift : (m due number latest : ℕ) (rs : List View) → last_start due (m + number) (m + latest) rs ≡ m + last_start due number latest rs
start_shift m due number latest [] = refl
start_shift m zero number latest (r ∷ rs) = ap (λ (n : ℕ). last_start (due_after 0 r) n (m + number) rs) (one_more m number) ∙ start_shift m (due_after 0 r) (suc number) number rs
start_shift m (suc due) number latest (r ∷ rs) = ap (λ (n : ℕ). last_start due n (m + latest) rs) (one_more m number) ∙ start_shift m due (suc number) latest rs

header_shift : (m level due number latest : ℕ) (rs : List View) → last_header level due (m + number) (m + latest) rs ≡ m + last_header level due number latest rs
header_shift m level due number latest [] = refl
header_shift m level zero number latest (r ∷ rs) = ap (λ (n : ℕ). last_header level (due_after 0 r) n (cond (is_header_at level r) (m + number) (m + latest)) rs) (one_more m number) ∙ ap (λ (n : ℕ). last_header level (due_after 0 r) (m + suc number) n rs) (either (is_header_at level r)) ∙ header_shift m level (due_after 0 r) (suc number) (cond (is_header_at level r) number latest) rs
  where
    either : (t : Bool) → cond t (m + number) (m + latest) ≡ m + cond t number latest
    either true = refl
    either false = refl
header_shift m level (suc due) number latest (r ∷ rs) = ap (λ (n : ℕ). last_header level due n (m + latest) rs) (one_more m number) ∙ header_shift m level due (suc number) latest rs

up-empty : (n : ℕ) (rs : List View) → rs ≡ [] → take n rs ≡ []
up-empty zero rs e = refl
up-empty (suc n) rs e = rw e

pub get_or-values : (count from : ℕ) (f : ℕ → ℕ) (i : ℕ) → i < count → get_or (values count from f) i 0 ≡ f (from + i)
get_or-values zero from f i h = absurd (omega arith)
get_or-values (suc count) from f zero h = ap f (let e : from ≡ from + 0 = omega arith in e)
get_or-values (suc count) from f (suc i) h = get_or-values count (suc from) f i (omega arith) ∙ ap f (let e : suc from + i ≡ from + suc i = omega arith in e)

-- ---- stage three: the first of two wrong counts
wrong-sheet : (agree : Bool) → to_fault (unless agree 10) 2 ≡ wrong_at (cond agree None (Some 2))
wrong-sheet true = refl
wrong-sheet false = refl

or-none : (low : Option ℕ) → or_else (wrong_at low) none ≡ wrong_at low
or-none None = refl
or-none (Some low) = refl

-- ---- a body against a directory, by what its walk and stage three answer
module _ (file : List ℕ) (x : Extent) (part : SheetPart) (directory : List (List ℕ)) (e : Edition) where
  pub refused-body : (r : Refusal) → sheet_said (Err r) ≡ body_sheet file x part → BodyAgainst file x part directory e (against_said (Err r))
  refused-body r q = record { sheet_is = q; listing = λ z. absurd (not_zero r.reason z) }

  pub against_fault : (r : Refusal) → WholeListed file x part.length directory e (layers_said (Err r)) → BodyAgainst file x part directory e (against_said (Err r))
  unfolding judge
  against_fault r b = refused-body r (rw (b.whole.fails (not_zero r.reason)))

  pub against_body : (w : Walk.WalkedLayers) → WholeListed file x part.length directory e (layers_said (Ok w)) → (s : Declared.Sheet) → sheet_said (Ok s) ≡ body_sheet file x part → BodyAgainst file x part directory e (against_said (Ok (record { sheet = s; layers = w.layers; unlisted = w.unlisted; first_numbers = w.first_numbers })))
  against_body w b s q = record { sheet_is = q; listing = λ z. b.listing refl }

module _ (file : List ℕ) (x : Extent) (extent_of : ExtentOf file x) (part : SheetPart) (w : WalkedLayers) (b : WholeBody file x part.length w) where
  abbrev f : File
  f = body_of file x part

  abbrev body : List View
  body = views_from file x part.length

  module _ (z : w.number ≡ 0) where
    over : views_from file x x.records ≡ []
    over = views_end file x extent_of x.records (omega arith)

    no_fault : fault_from 0 (suc part.length) body ≡ none
    no_fault = (b.passes z).same ∙ ap (fault_from 0 (suc x.records)) over

    items_are : items (entries body) ≡ w.seen.items
    items_are = omega (arith, (b.sees z).all, ap (λ (l : List View). items (entries l)) over)

    wrong_is : count_fault 0 (suc part.length) body ≡ wrong_at w.low
    wrong_is = (b.passes z).wrong (ap (fault_from 0 (suc x.records)) over) ∙ ap (λ (l : List View). or_else (wrong_at w.low) (count_fault 0 (suc x.records) l)) over ∙ or-none w.low

    -- what stands before the place
    none_left : up_to x.before (suc x.records) (views_from file x x.records) ≡ []
    none_left = up-empty (suc x.before - suc x.records) (views_from file x x.records) over

    same-front : up_to x.before (suc part.length) body ≡ take (x.before - part.length) body
    same-front = let e : suc x.before - suc part.length ≡ x.before - part.length = omega arith in ap (λ (n : ℕ). take n body) e

    start-found : w.seen.start ≡ start_before f x.before
    start-found =
        sym ((b.sees z).last ∙ ap (last_start 0 (suc x.records) w.seen.start) none_left)
        ∙ ap (last_start 0 (suc part.length) part.length) same-front
        ∙ ap (λ (n : ℕ). last_start 0 n part.length (take (x.before - part.length) body)) (sym (add-one part.length))
        ∙ ap (λ (n : ℕ). last_start 0 (part.length + 1) n (take (x.before - part.length) body)) (sym (add-zero part.length))
        ∙ start_shift part.length 0 1 0 (take (x.before - part.length) body)

    header-found : (level : ℕ) → level ≤ 8 → get_or w.seen.headers level 0 ≡ header_before f x.before level
    header-found level h =
        sym ((b.sees z).above level h ∙ ap (last_header level 0 (suc x.records) (get_or w.seen.headers level 0)) none_left)
        ∙ ap (λ (n : ℕ). last_header level 0 (suc part.length) n (up_to x.before (suc part.length) body)) (get_or-replicate 9 level part.length 0 (omega arith))
        ∙ ap (last_header level 0 (suc part.length) part.length) same-front
        ∙ ap (λ (n : ℕ). last_header level 0 n part.length (take (x.before - part.length) body)) (sym (add-one part.length))
        ∙ ap (λ (n : ℕ). last_header level 0 (part.length + 1) n (take (x.before - part.length) body)) (sym (add-zero part.length))
        ∙ header_shift part.length level 0 1 0 (take (x.before - part.length) body)

    headers_found : w.seen.headers ≡ values 9 0 (header_before f x.before)
    headers_found = sym (ext_get_or 0 (values 9 0 (header_before f x.before)) w.seen.headers (sym (b.seen_then z).nine) (λ level h. get_or-values 9 0 (header_before f x.before) level h ∙ ap (header_before f x.before) (zero-add level) ∙ sym (header-found level (omega arith))))

    module _ (sheet low : Option ℕ) (of : sheet ≡ wrong_sheet_of part w.seen.items (x.records - part.length)) (first_is : low ≡ option_or sheet w.low) where
      body-fault : body_fault f ≡ wrong_at low
      unfolding wrong_sheet_of
      body-fault =
          rw (no_fault, items_are, length_views file x extent_of part.length, wrong_is)
          (ap (λ (f : Fault). or_else f (wrong_at w.low)) (wrong-sheet (eqb part.stated_elements w.seen.items && eqb part.stated_records (x.records - part.length)) ∙ ap wrong_at (sym of)) ∙ ap (or_else (wrong_at sheet)) (sym (or-none w.low)) ∙ wrong_first sheet w.low none ∙ or-none (option_or sheet w.low) ∙ ap wrong_at (sym first_is))

      pub answers-count : (r : Refusal) (n : ℕ) → low ≡ Some n → r ≡ refusal_for Count n → sheet_said (Err r) ≡ body_sheet file x part
      unfolding judge
      answers-count r n is e = rw (e, body-fault, is)

      module _ (inside : part.length ≤ x.records) (right : low ≡ None) where
        judged : judge f ≡ accepted x.records w.seen.items
        unfolding judge
        judged =
            let whole : part.length + (x.records - part.length) ≡ x.records = omega arith in
            rw (body-fault, right, length_views file x extent_of part.length, items_are, whole)

        pub stands : Stands file x part w.seen
        stands = record { judged = judged; start_is = start-found; headers_are = headers_found }

        pub answers-sheet : (s : Declared.Sheet) → sheet_said (Ok s) ≡ standing_sheet file x part w.seen → sheet_said (Ok s) ≡ body_sheet file x part
        answers-sheet s e = e ∙ rw judged
