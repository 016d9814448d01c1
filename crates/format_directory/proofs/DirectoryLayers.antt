-- The layers of a sheet: every layer header once, in order, and nothing else; the items and the last record of each; so few that seven digits hold their
-- numbers. Assumes nothing.
use mathlib.Core.Path.{◌≡◌, refl, ap, ap₂, sym, subst, ◌∙◌}
use mathlib.Core.Bool.{Bool, true, false, cond, not, ◌||◌, ◌&&◌, false≢true}
use mathlib.Core.Logic.{◌⊎◌, inl, inr}
use mathlib.Core.List.{List, [], ◌∷◌, ◌++◌, map}
use Prim.Native.Nat.{ℕ, zero, suc, ◌+◌, ◌≤◌, ◌<◌}
use native.Mathlib.Omega.{arith}
use lib.Dec.{eqb, ltb}
use lib.ListN.{length, length-append, length-map, length-drop, drop}
use borrow.Author.Tests.{eqb-true, eq-eqb, ltb-true, ltb-false}
use Rattle.format.specs.Basics.{given, Fault, none, fault, fine, member}
use Rattle.format.specs.Record.{is_head, View, view}
use Rattle.format.specs.Sheet.{part_length, sheet_fault}
use Rattle.format.specs.Judge.{due_after, headers_and_items, is_header_at, items, file_of, Counts, after_part, judge, judge_records}
use Rattle.format.specs.Edit.{due_behind}
use Rattle.format_directory.specs.declared.Edition.TheVariants.{One}
use Rattle.format_directory.specs.Directory.{Layer, layer_body, layers_from, layers_of, total_of, last_of, LayerEntry}
use Rattle.format_directory.specs.DirectoryChecks.{StandsAt, LayerHeader, is_item, Rising, Spans, AllSpan, numbers_of}
use Rattle.format.proofs.Basics.{or_cases, and-true}
use Rattle.format.proofs.Above.{data_records-head}
use Rattle.format.proofs.SheetCounts.{the_laws}
use Rattle.format_directory.proofs.RisingLists.{true_or, later, rising_above, rising-same}
use Rattle.format_directory.proofs.DirectoryRecords.{AllFit}

-- ---- few and short
body-short : (n : ℕ) (rs : List View) → length (layer_body n rs) ≤ length rs
body-short n [] = omega arith
body-short zero (r ∷ rs) = go (is_header_at 1 r) (body-short (due_after 0 r) rs)
  where
    go : (t : Bool) → length (layer_body (due_after 0 r) rs) ≤ length rs → length (cond t [] (r ∷ layer_body (due_after 0 r) rs)) ≤ suc (length rs)
    go true ih = omega arith
    go false ih = omega arith
body-short (suc n) (r ∷ rs) = omega (arith, body-short n rs)

layers-count : (n i : ℕ) (rs : List View) → length (layers_from n i rs) ≤ length rs
layers-count n i [] = omega arith
layers-count zero i (r ∷ rs) = go (is_header_at 1 r) (layers-count (due_after 0 r) (suc i) rs)
  where
    go : (t : Bool) → length (layers_from (due_after 0 r) (suc i) rs) ≤ length rs → length (cond t (record { header = i; body = layer_body 0 rs } ∷ []) [] ++ layers_from (due_after 0 r) (suc i) rs) ≤ suc (length rs)
    go true ih = omega arith
    go false ih = omega arith
layers-count (suc n) i (r ∷ rs) = omega (arith, layers-count n (suc i) rs)

pub layers-fit : (n i : ℕ) (rs : List View) → i + length rs ≤ 10000000 → AllFit (layers_from n i rs)
unfolding AllFit
layers-fit n i [] h = tt
layers-fit zero i (r ∷ rs) h = go (is_header_at 1 r) (layers-fit (due_after 0 r) (suc i) rs (omega arith))
  where
    go : (t : Bool) → AllFit (layers_from (due_after 0 r) (suc i) rs) → AllFit (cond t (record { header = i; body = layer_body 0 rs } ∷ []) [] ++ layers_from (due_after 0 r) (suc i) rs)
    go true ih = (omega (arith, body-short 0 rs), ih)
    go false ih = ih
layers-fit (suc n) i (r ∷ rs) h = layers-fit n (suc i) rs (omega arith)

pub judged-part : (R : List (List ℕ)) (c : Counts) → judge_records R ≡ given c → part_length R ≤ length R
unfolding judge_records
judged-part R c e = go (sheet_fault R) refl e
  where
    go : (x : Fault) → sheet_fault R ≡ x → after_part x (judge (file_of R)) ≡ given c → part_length R ≤ length R
    go none p e = the_laws.inside R (ap fine p)
    go (fault n r) p e = let z : ◌≡◌ {A = ℕ} 0 1 = cc in absurd (omega arith)

pub body-length : (R : List (List ℕ)) (c : Counts) → judge_records R ≡ given c → suc (part_length R) + length (map view (drop (part_length R) R)) ≡ suc (length R)
body-length R c judged = rw (length-map (drop (part_length R) R) view, length-drop (part_length R) R) (omega (arith, judged-part R c judged))

module _ (R : List (List ℕ)) (c : Counts) (judged : judge_records R ≡ given c) (few : length R ≤ 200000) where
  pub sheet-layers : length (layers_of R) ≤ length R
  unfolding layers_of
  sheet-layers = omega (arith, layers-count 0 (suc (part_length R)) (map view (drop (part_length R) R)), body-length R c judged)

  pub sheet-fit : AllFit (layers_of R)
  unfolding layers_of
  sheet-fit = layers-fit 0 (suc (part_length R)) (map view (drop (part_length R) R)) (omega (arith, body-length R c judged, few))

-- ---- the numbers of the records, where no data is due, of which something holds
abbrev nothing_due : ℕ → Bool
nothing_due zero = true
nothing_due (suc due) = false

abbrev put : Bool → ℕ → List ℕ → List ℕ
put true n ns = n ∷ ns
put false n ns = ns

abbrev pub picked : (is : View → Bool) → (due number : ℕ) → List View → List ℕ
picked is due number [] = []
picked is due number (r ∷ rs) = put (nothing_due due && is r) number (picked is (due_after due r) (suc number) rs)

put_rises : (t : Bool) (i : ℕ) (ns : List ℕ) → Rising (suc i) ns → Rising i (put t i ns)
put_rises true i ns h = (omega arith, h)
put_rises false i ns h = later (suc i) i ns (omega arith) h

put-here : (t : Bool) (m i : ℕ) (ns : List ℕ) → t ≡ true → m ≡ i → member m (put t i ns) ≡ true
put-here true m i ns p e = ap (λ (x : Bool). x || member m ns) (eq-eqb m i e)
put-here false m i ns p e = absurd (false≢true p)

put_later : (t : Bool) (m i : ℕ) (ns : List ℕ) → member m ns ≡ true → member m (put t i ns) ≡ true
put_later true m i ns e = true_or (eqb m i) (member m ns) e
put_later false m i ns e = e

in_put : (t : Bool) (m i : ℕ) (ns : List ℕ) → member m (put t i ns) ≡ true → ((t ≡ true) × (m ≡ i)) ⊎ (member m ns ≡ true)
in_put true m i ns e = go (or_cases (eqb m i) (member m ns) e)
  where
    go : (eqb m i ≡ true) ⊎ (member m ns ≡ true) → ((true ≡ true) × (m ≡ i)) ⊎ (member m ns ≡ true)
    go (inl q) = inl (refl, eqb-true m i q)
    go (inr q) = inr q
in_put false m i ns e = inr e

-- behind the number i
not-here : (t : Bool) (m i : ℕ) (ns : List ℕ) → i < m → member m (put t i ns) ≡ true → member m ns ≡ true
not-here t m i ns l e = go (in_put t m i ns e)
  where
    go : ((t ≡ true) × (m ≡ i)) ⊎ (member m ns ≡ true) → member m ns ≡ true
    go (inl q) = absurd (omega (arith, q.1))
    go (inr q) = q

-- once and in order
pub picked_rise : (is : View → Bool) (n i : ℕ) (rs : List View) → Rising i (picked is n i rs)
picked_rise is n i [] = tt
picked_rise is n i (r ∷ rs) = put_rises (nothing_due n && is r) i (picked is (due_after n r) (suc i) rs) (picked_rise is (due_after n r) (suc i) rs)

picked_above : (is : View → Bool) (n i : ℕ) (rs : List View) (m : ℕ) → member m (picked is n i rs) ≡ true → i ≤ m
picked_above is n i rs m e = rising_above i (picked is n i rs) (picked_rise is n i rs) m e

-- every such record, and nothing else
record Found (is : View → Bool) (n i : ℕ) (rs : List View) (m : ℕ) : Type 0 where
  before : List View
  entry : View
  behind : List View
  there : rs ≡ before ++ entry ∷ behind
  none_due : due_behind n before ≡ 0
  holds : is entry ≡ true
  numbered : m ≡ i + length before

pub one_more : (i k : ℕ) → suc i + k ≡ i + suc k
one_more i k = omega arith

found : (is : View → Bool) (n i : ℕ) (rs : List View) (m : ℕ) → member m (picked is n i rs) ≡ true → Found is n i rs m
found is n i [] m e = absurd (false≢true e)
found is n i (r ∷ rs) m e = go (in_put (nothing_due n && is r) m i (picked is (due_after n r) (suc i) rs) e) (found is (due_after n r) (suc i) rs m)
  where
    none₁ : i ≡ i + 0
    none₁ = omega arith

    further : Found is (due_after n r) (suc i) rs m → Found is n i (r ∷ rs) m
    further f = record { before = r ∷ f.before; entry = f.entry; behind = f.behind; there = ap (λ (x : List View). r ∷ x) f.there; none_due = f.none_due; holds = f.holds; numbered = f.numbered ∙ one_more i (length f.before) }

    here : (n : ℕ) → nothing_due n && is r ≡ true → m ≡ i → Found is n i (r ∷ rs) m
    here zero t q = record { before = []; entry = r; behind = rs; there = refl; none_due = refl; holds = t; numbered = q ∙ none₁ }
    here (suc n) t q = absurd (false≢true t)

    go : ((nothing_due n && is r ≡ true) × (m ≡ i)) ⊎ (member m (picked is (due_after n r) (suc i) rs) ≡ true) → (member m (picked is (due_after n r) (suc i) rs) ≡ true → Found is (due_after n r) (suc i) rs m) → Found is n i (r ∷ rs) m
    go (inl q) ih = here n q.0 q.1
    go (inr q) ih = further (ih q)

lists : (is : View → Bool) (n i : ℕ) (P : List View) (h : View) (Q : List View) (m : ℕ) → due_behind n P ≡ 0 → is h ≡ true → m ≡ i + length P → member m (picked is n i (P ++ h ∷ Q)) ≡ true
lists is zero i [] h Q m d t e = put-here (is h) m i (picked is (due_after 0 h) (suc i) Q) t (omega arith)
lists is (suc n) i [] h Q m d t e = absurd (omega arith)
lists is n i (r ∷ P) h Q m d t e = put_later (nothing_due n && is r) m i (picked is (due_after n r) (suc i) (P ++ h ∷ Q)) (lists is (due_after n r) (suc i) P h Q m d t (omega arith))

-- of a sheet
abbrev pub picked_in : (is : View → Bool) → (records : List (List ℕ)) → List ℕ
picked_in is records = picked is 0 (suc (file_of records).part_length) (file_of records).body

pub only_picked : (is : View → Bool) (records : List (List ℕ)) (m : ℕ) → member m (picked_in is records) ≡ true → StandsAt is records m
only_picked is records m e = record { before = f.before; entry = f.entry; behind = f.behind; there = f.there; none_due = f.none_due; holds = f.holds; numbered = f.numbered ∙ one_more (file_of records).part_length (length f.before) }
  where
    f : Found is 0 (suc (file_of records).part_length) (file_of records).body m
    f = found is 0 (suc (file_of records).part_length) (file_of records).body m e

pub every_picked : (is : View → Bool) (records : List (List ℕ)) (m : ℕ) → StandsAt is records m → member m (picked_in is records) ≡ true
every_picked is records m h = ap (λ (x : List View). member m (picked is 0 (suc (file_of records).part_length) x)) h.there ∙ lists is 0 (suc (file_of records).part_length) h.before h.entry h.behind m h.none_due h.holds (h.numbered ∙ sym (one_more (file_of records).part_length (length h.before)))

-- ---- the numbers of some layers' headers: every layer header once, in order, and nothing else
abbrev pub headers : List Layer → List ℕ
headers [] = []
headers (l ∷ ls) = l.header ∷ headers ls

headers_from : (n i : ℕ) (rs : List View) → headers (layers_from n i rs) ≡ picked (is_header_at 1) n i rs
headers_from n i [] = refl
headers_from zero i (r ∷ rs) = go (is_header_at 1 r) (headers_from (due_after 0 r) (suc i) rs)
  where
    go : (t : Bool) → headers (layers_from (due_after 0 r) (suc i) rs) ≡ picked (is_header_at 1) (due_after 0 r) (suc i) rs → headers (cond t (record { header = i; body = layer_body 0 rs } ∷ []) [] ++ layers_from (due_after 0 r) (suc i) rs) ≡ put t i (picked (is_header_at 1) (due_after 0 r) (suc i) rs)
    go true ih = ap (λ (x : List ℕ). i ∷ x) ih
    go false ih = ih
headers_from (suc n) i (r ∷ rs) = headers_from n (suc i) rs

headers_picked : (records : List (List ℕ)) → headers (layers_of records) ≡ picked_in (is_header_at 1) records
unfolding layers_of
headers_picked records = headers_from 0 (suc (file_of records).part_length) (file_of records).body

pub headers_rise : (records : List (List ℕ)) → Rising (suc (file_of records).part_length) (headers (layers_of records))
headers_rise records = subst (Rising (suc (file_of records).part_length)) (sym (headers_picked records)) (picked_rise (is_header_at 1) 0 (suc (file_of records).part_length) (file_of records).body)

pub only_headers : (records : List (List ℕ)) (m : ℕ) → member m (headers (layers_of records)) ≡ true → LayerHeader records m
only_headers records m e = only_picked (is_header_at 1) records m (ap (member m) (sym (headers_picked records)) ∙ e)

pub every-header : (records : List (List ℕ)) (m : ℕ) → LayerHeader records m → member m (headers (layers_of records)) ≡ true
every-header records m h = ap (member m) (headers_picked records) ∙ every_picked (is_header_at 1) records m h

-- ---- where the body of a layer ends: no layer header stands in it, one stands behind it or nothing does, and its items are those up to there
body_own : (n i : ℕ) (rs : List View) (m : ℕ) → m < i + length (layer_body n rs) → member m (picked (is_header_at 1) n i rs) ≡ true → ⊥
body_own n i [] m l e = false≢true e
body_own zero i (r ∷ rs) m l e = go (is_header_at 1 r) (body_own (due_after 0 r) (suc i) rs m) l e
  where
    go : (t : Bool) → (m < suc i + length (layer_body (due_after 0 r) rs) → member m (picked (is_header_at 1) (due_after 0 r) (suc i) rs) ≡ true → ⊥) → m < i + length (cond t [] (r ∷ layer_body (due_after 0 r) rs)) → member m (put t i (picked (is_header_at 1) (due_after 0 r) (suc i) rs)) ≡ true → ⊥
    go true ih l e = omega (arith, rising_above i (i ∷ picked (is_header_at 1) (due_after 0 r) (suc i) rs) (omega arith, picked_rise (is_header_at 1) (due_after 0 r) (suc i) rs) m e)
    go false ih l e = ih (omega arith) e
body_own (suc n) i (r ∷ rs) m l e = body_own n (suc i) rs m (omega arith) e

body-next : (n i : ℕ) (rs : List View) → (member (i + length (layer_body n rs)) (picked (is_header_at 1) n i rs) ≡ true) ⊎ (length (layer_body n rs) ≡ length rs)
body-next n i [] = inr refl
body-next zero i (r ∷ rs) = go (is_header_at 1 r) (body-next (due_after 0 r) (suc i) rs)
  where
    go : (t : Bool) → (member (suc i + length (layer_body (due_after 0 r) rs)) (picked (is_header_at 1) (due_after 0 r) (suc i) rs) ≡ true) ⊎ (length (layer_body (due_after 0 r) rs) ≡ length rs) → (member (i + length (cond t [] (r ∷ layer_body (due_after 0 r) rs))) (put t i (picked (is_header_at 1) (due_after 0 r) (suc i) rs)) ≡ true) ⊎ (length (cond t [] (r ∷ layer_body (due_after 0 r) rs)) ≡ suc (length rs))
    go true ih = inl (put-here true (i + 0) i (picked (is_header_at 1) (due_after 0 r) (suc i) rs) refl (let q : i + 0 ≡ i = omega arith in q))
    go false (inl e) = inl (ap (λ (x : ℕ). member x (picked (is_header_at 1) (due_after 0 r) (suc i) rs)) (sym (one_more i (length (layer_body (due_after 0 r) rs)))) ∙ e)
    go false (inr e) = inr (ap suc e)
body-next (suc n) i (r ∷ rs) = go (body-next n (suc i) rs)
  where
    go : (member (suc i + length (layer_body n rs)) (picked (is_header_at 1) n (suc i) rs) ≡ true) ⊎ (length (layer_body n rs) ≡ length rs) → (member (i + suc (length (layer_body n rs))) (picked (is_header_at 1) n (suc i) rs) ≡ true) ⊎ (suc (length (layer_body n rs)) ≡ suc (length rs))
    go (inl e) = inl (ap (λ (x : ℕ). member x (picked (is_header_at 1) n (suc i) rs)) (sym (one_more i (length (layer_body n rs)))) ∙ e)
    go (inr e) = inr (ap suc e)

module _ (is : View → Bool) where
  in_body : (n i : ℕ) (rs : List View) (m : ℕ) → member m (picked is n i (layer_body n rs)) ≡ true → (member m (picked is n i rs) ≡ true) × (m < i + length (layer_body n rs))
  in_body n i [] m e = absurd (false≢true e)
  in_body zero i (r ∷ rs) m e = go (is_header_at 1 r) (in_body (due_after 0 r) (suc i) rs m) e
    where
      go : (t : Bool) → (member m (picked is (due_after 0 r) (suc i) (layer_body (due_after 0 r) rs)) ≡ true → (member m (picked is (due_after 0 r) (suc i) rs) ≡ true) × (m < suc i + length (layer_body (due_after 0 r) rs))) → member m (picked is 0 i (cond t [] (r ∷ layer_body (due_after 0 r) rs))) ≡ true → (member m (picked is 0 i (r ∷ rs)) ≡ true) × (m < i + length (cond t [] (r ∷ layer_body (due_after 0 r) rs)))
      go true ih e = absurd (false≢true e)
      go false ih e = which (in_put (is r) m i (picked is (due_after 0 r) (suc i) (layer_body (due_after 0 r) rs)) e)
        where
          which : ((is r ≡ true) × (m ≡ i)) ⊎ (member m (picked is (due_after 0 r) (suc i) (layer_body (due_after 0 r) rs)) ≡ true) → (member m (put (is r) i (picked is (due_after 0 r) (suc i) rs)) ≡ true) × (m < i + suc (length (layer_body (due_after 0 r) rs)))
          which (inl q) = (put-here (is r) m i _ q.0 q.1, omega (arith, q.1))
          which (inr q) = (put_later (is r) m i _ (ih q).0, omega (arith, (ih q).1))
  in_body (suc n) i (r ∷ rs) m e = let ih = in_body n (suc i) rs m e in (ih.0, omega (arith, ih.1))

  body_in : (n i : ℕ) (rs : List View) (m : ℕ) → member m (picked is n i rs) ≡ true → m < i + length (layer_body n rs) → member m (picked is n i (layer_body n rs)) ≡ true
  body_in n i [] m e l = e
  body_in zero i (r ∷ rs) m e l = go (is_header_at 1 r) (body_in (due_after 0 r) (suc i) rs m) l
    where
      go : (t : Bool) → (member m (picked is (due_after 0 r) (suc i) rs) ≡ true → m < suc i + length (layer_body (due_after 0 r) rs) → member m (picked is (due_after 0 r) (suc i) (layer_body (due_after 0 r) rs)) ≡ true) → m < i + length (cond t [] (r ∷ layer_body (due_after 0 r) rs)) → member m (picked is 0 i (cond t [] (r ∷ layer_body (due_after 0 r) rs))) ≡ true
      go true ih l = absurd (omega (arith, picked_above is 0 i (r ∷ rs) m e))
      go false ih l = which (in_put (is r) m i (picked is (due_after 0 r) (suc i) rs) e)
        where
          which : ((is r ≡ true) × (m ≡ i)) ⊎ (member m (picked is (due_after 0 r) (suc i) rs) ≡ true) → member m (put (is r) i (picked is (due_after 0 r) (suc i) (layer_body (due_after 0 r) rs))) ≡ true
          which (inl q) = put-here (is r) m i _ q.0 q.1
          which (inr q) = put_later (is r) m i _ (ih q (omega arith))
  body_in (suc n) i (r ∷ rs) m e l = body_in n (suc i) rs m e (omega arith)

-- so many items
items_picked : (n i : ℕ) (rs : List View) → length (picked is_item n i rs) ≡ items (headers_and_items n rs)
items_picked n i [] = refl
items_picked zero i (r ∷ rs) = go (is_head r.kind) (items_picked (due_after 0 r) (suc i) rs)
  where
    go : (t : Bool) → length (picked is_item (due_after 0 r) (suc i) rs) ≡ items (headers_and_items (due_after 0 r) rs) → length (put (not t) i (picked is_item (due_after 0 r) (suc i) rs)) ≡ cond t 0 1 + items (headers_and_items (due_after 0 r) rs)
    go true ih = omega (arith, ih)
    go false ih = omega (arith, ih)
items_picked (suc n) i (r ∷ rs) = items_picked n (suc i) rs

-- ---- each layer's total and last record are right
-- among the records from the one with number i on
record SpansIn (n i : ℕ) (rs : List View) (l : Layer) : Type 0 where
  low : i ≤ l.header
  own : (m : ℕ) → l.header < m → m ≤ last_of l → member m (picked (is_header_at 1) n i rs) ≡ true → ⊥
  next : (member (suc (last_of l)) (picked (is_header_at 1) n i rs) ≡ true) ⊎ (suc (last_of l) ≡ i + length rs)
  forth : (m : ℕ) → member m (picked is_item 0 (suc l.header) l.body) ≡ true → (member m (picked is_item n i rs) ≡ true) × (l.header < m) × (m ≤ last_of l)
  back : (m : ℕ) → member m (picked is_item n i rs) ≡ true → l.header < m → m ≤ last_of l → member m (picked is_item 0 (suc l.header) l.body) ≡ true

abbrev AllIn : (n i : ℕ) → List View → List Layer → Type 0
AllIn n i rs [] = Unit {0}
AllIn n i rs (l ∷ ls) = SpansIn n i rs l × AllIn n i rs ls

spans_further : (n i : ℕ) (r : View) (rs : List View) (l : Layer) → SpansIn (due_after n r) (suc i) rs l → SpansIn n i (r ∷ rs) l
spans_further n i r rs l s = record {
  low = omega (arith, s.low);
  own = λ m a b e. s.own m a b (not-here (nothing_due n && is_header_at 1 r) m i _ (omega (arith, s.low, a)) e);
  next = go s.next;
  forth = λ m e. let q = s.forth m e in (put_later (nothing_due n && is_item r) m i _ q.0, q.1, q.2);
  back = λ m e a b. s.back m (not-here (nothing_due n && is_item r) m i _ (omega (arith, s.low, a)) e) a b;
}
  where
    go : (member (suc (last_of l)) (picked (is_header_at 1) (due_after n r) (suc i) rs) ≡ true) ⊎ (suc (last_of l) ≡ suc i + length rs) → (member (suc (last_of l)) (picked (is_header_at 1) n i (r ∷ rs)) ≡ true) ⊎ (suc (last_of l) ≡ i + suc (length rs))
    go (inl e) = inl (put_later (nothing_due n && is_header_at 1 r) (suc (last_of l)) i _ e)
    go (inr e) = inr (e ∙ one_more i (length rs))

all_further : (n i : ℕ) (r : View) (rs : List View) (ls : List Layer) → AllIn (due_after n r) (suc i) rs ls → AllIn n i (r ∷ rs) ls
all_further n i r rs [] a = tt
all_further n i r rs (l ∷ ls) a = (spans_further n i r rs l a.0, all_further n i r rs ls a.1)

-- a layer header with its layer
spans-here : (i : ℕ) (r : View) (rs : List View) → is_header_at 1 r ≡ true → SpansIn 0 i (r ∷ rs) (record { header = i; body = layer_body 0 rs })
unfolding last_of
spans-here i r rs t = record {
  low = omega arith;
  own = λ m a b e. body_own 0 (suc i) rs m (omega arith) (none (is_header_at 1) m e a);
  next = go (body-next 0 (suc i) rs);
  forth = λ m e. let q = in_body is_item 0 (suc i) rs m e in (put_later (is_item r) m i _ (ap (λ (d : ℕ). member m (picked is_item d (suc i) rs)) due ∙ q.0), omega (arith, picked_above is_item 0 (suc i) (layer_body 0 rs) m e), omega (arith, q.1));
  back = λ m e a b. body_in is_item 0 (suc i) rs m (none is_item m e a) (omega arith);
}
  where
    due : due_after 0 r ≡ 0
    due = data_records-head r (and-true (is_head r.kind) (eqb r.level 1) t).0

    none : (is : View → Bool) (m : ℕ) → member m (picked is 0 i (r ∷ rs)) ≡ true → i < m → member m (picked is 0 (suc i) rs) ≡ true
    none is m e a = ap (λ (d : ℕ). member m (picked is d (suc i) rs)) (sym due) ∙ not-here (is r) m i _ a e

    go : (member (suc i + length (layer_body 0 rs)) (picked (is_header_at 1) 0 (suc i) rs) ≡ true) ⊎ (length (layer_body 0 rs) ≡ length rs) → (member (suc (i + length (layer_body 0 rs))) (picked (is_header_at 1) 0 i (r ∷ rs)) ≡ true) ⊎ (suc (i + length (layer_body 0 rs)) ≡ i + suc (length rs))
    go (inl e) = inl (put_later (is_header_at 1 r) (suc (i + length (layer_body 0 rs))) i _ (ap₂ (λ (d x : ℕ). member x (picked (is_header_at 1) d (suc i) rs)) due (let q : suc (i + length (layer_body 0 rs)) ≡ suc i + length (layer_body 0 rs) = omega arith in q) ∙ e))
    go (inr e) = inr (omega (arith, e))

all_in : (n i : ℕ) (rs : List View) → AllIn n i rs (layers_from n i rs)
all_in n i [] = tt
all_in zero i (r ∷ rs) = go (is_header_at 1 r) refl (all_further 0 i r rs (layers_from (due_after 0 r) (suc i) rs) (all_in (due_after 0 r) (suc i) rs))
  where
    go : (t : Bool) → is_header_at 1 r ≡ t → AllIn 0 i (r ∷ rs) (layers_from (due_after 0 r) (suc i) rs) → AllIn 0 i (r ∷ rs) (cond t (record { header = i; body = layer_body 0 rs } ∷ []) [] ++ layers_from (due_after 0 r) (suc i) rs)
    go true e ih = (spans-here i r rs e, ih)
    go false e ih = ih
all_in (suc n) i (r ∷ rs) = all_further (suc n) i r rs (layers_from n (suc i) rs) (all_in n (suc i) rs)

-- what is counted of a layer
abbrev pub entry_of : Layer → LayerEntry
entry_of l = record { header = l.header; total = total_of l; last = last_of l }

abbrev pub entries : List Layer → List LayerEntry
entries [] = []
entries (l ∷ ls) = entry_of l ∷ entries ls

pub entry_path : (a b : LayerEntry) → a.header ≡ b.header → a.total ≡ b.total → a.last ≡ b.last → a ≡ b
entry_path a b p q r = λ i. record { header = p i; total = q i; last = r i }

-- of an accepted sheet
module _ (R : List (List ℕ)) (c : Counts) (judged : judge_records R ≡ given c) where
  spans_of_lem : (l : Layer) → SpansIn 0 (suc (part_length R)) (map view (drop (part_length R) R)) l → Spans R l.header (total_of l) (last_of l)
  unfolding total_of last_of
  spans_of_lem l s = record {
    low = omega arith;
    own = λ m a b h. s.own m a b (every_picked (is_header_at 1) R m h);
    next = go s.next;
    items = picked is_item 0 (suc l.header) l.body;
    each = λ m. (λ e. let q = s.forth m e in (only_picked is_item R m q.0, q.1, q.2), λ q. s.back m (every_picked is_item R m q.0) q.1 q.2);
    rising = later (suc l.header) 0 (picked is_item 0 (suc l.header) l.body) (omega arith) (picked_rise is_item 0 (suc l.header) l.body);
    counted = sym (items_picked 0 (suc l.header) l.body);
  }
    where
      go : (member (suc (last_of l)) (picked_in (is_header_at 1) R) ≡ true) ⊎ (suc (last_of l) ≡ suc (part_length R) + length (map view (drop (part_length R) R))) → LayerHeader R (suc (last_of l)) ⊎ (last_of l ≡ length R)
      go (inl e) = inl (only_picked (is_header_at 1) R (suc (last_of l)) e)
      go (inr e) = inr (omega (arith, e, body-length R c judged))

  pub all_span : AllSpan R (entries (layers_of R))
  unfolding layers_of
  all_span = go (layers_of R) (all_in 0 (suc (part_length R)) (map view (drop (part_length R) R)))
    where
      go : (ls : List Layer) → AllIn 0 (suc (part_length R)) (map view (drop (part_length R) R)) ls → AllSpan R (entries ls)
      go [] a = tt
      go (l ∷ ls) a = (spans_of_lem l a.0, go ls a.1)

  -- and no others are
  header-inside : (m : ℕ) → LayerHeader R m → m ≤ length R
  header-inside m h = omega (arith, h.numbered, ap length h.there ∙ length-append h.before (h.entry ∷ h.behind), body-length R c judged)

  module _ (header total total' last last' : ℕ) (s : Spans R header total last) (s' : Spans R header total' last') where
    not_less : (x y x' y' : ℕ) → Spans R header x y → Spans R header x' y' → y < y' → ⊥
    not_less x y x' y' a b l = go a.next
      where
        end : LayerHeader R (suc y') ⊎ (y' ≡ length R) → y ≡ length R → ⊥
        end (inl h) e = omega (arith, header-inside (suc y') h)
        end (inr q) e = omega arith

        go : LayerHeader R (suc y) ⊎ (y ≡ length R) → ⊥
        go (inl h) = b.own (suc y) (omega (arith, a.low)) (omega arith) h
        go (inr e) = end b.next e

    pub same-last : last ≡ last'
    same-last = go (ltb last last') refl (ltb last' last) refl
      where
        go : (t : Bool) → ltb last last' ≡ t → (u : Bool) → ltb last' last ≡ u → last ≡ last'
        go true p u q = absurd (not_less total last total' last' s s' (ltb-true last last' p))
        go false p true q = absurd (not_less total' last' total last s' s (ltb-true last' last q))
        go false p false q = omega (arith, ltb-false last last' p, ltb-false last' last q)

    pub same_total : total ≡ total'
    same_total = s.counted ∙ ap length (rising-same 0 0 s.items s'.items s.rising s'.rising forth back) ∙ sym s'.counted
      where
        forth : (m : ℕ) → member m s.items ≡ true → member m s'.items ≡ true
        forth m e = let q = (s.each m).0 e in (s'.each m).1 (q.0, q.1, omega (arith, q.2, same-last))

        back : (m : ℕ) → member m s'.items ≡ true → member m s.items ≡ true
        back m e = let q = (s'.each m).0 e in (s.each m).1 (q.0, q.1, omega (arith, q.2, same-last))

  -- so the headers decide all of it
  pub same-entry : (a b : LayerEntry) → a.header ≡ b.header → Spans R a.header a.total a.last → Spans R b.header b.total b.last → a ≡ b
  same-entry a b h s s' = entry_path a b h (same_total b.header a.total b.total a.last b.last moved s') (same-last b.header a.total b.total a.last b.last moved s')
    where
      moved : Spans R b.header a.total a.last
      moved = subst (λ (n : ℕ). Spans R n a.total a.last) h s

  pub same_entries : (xs ys : List LayerEntry) → AllSpan R xs → AllSpan R ys → numbers_of One xs ≡ numbers_of One ys → xs ≡ ys
  same_entries [] [] s s' e = refl
  same_entries [] (y ∷ ys) s s' e = let z : ◌≡◌ {A = ℕ} 0 1 = cc in absurd (omega arith)
  same_entries (x ∷ xs) [] s s' e = let z : ◌≡◌ {A = ℕ} 0 1 = cc in absurd (omega arith)
  same_entries (x ∷ xs) (y ∷ ys) s s' e = ap₂ (λ (a : LayerEntry) (rest : List LayerEntry). a ∷ rest) (same-entry x y (let h : x.header ≡ y.header = cc in h) s.0 s'.0) (same_entries xs ys s.1 s'.1 (let h : numbers_of One xs ≡ numbers_of One ys = cc in h))
