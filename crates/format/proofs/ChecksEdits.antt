-- The order of 11 to 15, of an accepted sheet. Assumes nothing.
use mathlib.Core.Path.{◌≡◌, refl, ap, sym, ◌∙◌}
use mathlib.Core.Logic.{◌⊎◌, inl, inr, ◌≢◌}
use mathlib.Core.Bool.{Bool, true, false, cond, not, ◌&&◌, ◌||◌, false≢true}
use mathlib.Core.List.{List, [], ◌∷◌, ◌++◌, map}
use Prim.Native.Nat.{ℕ, zero, suc, pred, ◌+◌, ◌-◌, ◌*◌, ◌/◌, ◌%◌, ◌≤◌, ◌<◌}
use native.Mathlib.Omega.{arith}
use lib.Dec.{leb, ltb, eqb}
use lib.ListN.{length, length-append, length-map, length-drop, take, drop, get_or, take-append-drop, drop_of_length-le}
use lib.Seq.{take-append_seam, get_or-append_seam, length-take-le, drop-cons, take_all}
use borrow.Author.Tests.{leb-true, leb-false, le-leb, ltb-true, ltb-false, lt-ltb, eqb-true, eq-eqb, not-true}
use Rattle.format.specs.Basics.{fine, unless, chunks, given, refused}
use Rattle.format.specs.Record.{RecordType, H, E1, E2, E3, E4, E5, E6, E7, E8, G, T, other, type_of, kind_of, is_head, count_index, Data, nothing, View, view, view_as, header_view, element_view, grid_view, net_view, other_view}
use Rattle.format.specs.Judge.{File, headers_and_items, open_of, open_after, due_after, fault_at, walk, AcceptedSheet}
use Rattle.format.specs.Edit.{block_item, item_in, RecordList, absent, due_behind, open_behind, above_in, body_place, block_of, fault12, not_below, is_block, insert_fault, remove11, before, above_block}
use Rattle.format.specs.Calls.{Edit, insert, remove, conclude, plain}
use Rattle.format.specs.Above.{HeaderAbove}
use Rattle.format.specs.Run.{Buffer, call, list_of, sheet_of}
use Rattle.format.specs.Checks.{Check, FirstOf, AnswersFirst, StartsAt, OneItem, OpenLevel, before_first, behind_header, behind_item, in_order, header_or_item_faults, data_faults, edit_checks, before_place, LevelWrong, TooMany, TooShort}
use Rattle.format.proofs.Basics.{and-true, true_and}
use Rattle.format.proofs.JudgeWalks.{Passes, Walks, good, walk-passes, passes-walk}
use Rattle.format.proofs.Lists.{length-chunks}
use Rattle.format.proofs.Above.{find_in}
use Rattle.format.proofs.AboveWayUp.{split_above}
use Rattle.format.proofs.AcceptedSheet.{inside, accepted-list, all-records, passed}
use Rattle.format.proofs.EditItems.{item-data_records, item-low, due_behind_data}
use Rattle.format.proofs.EditInsert.{fine-none, above_is}
use Rattle.format.proofs.ChecksOrder.{exactly_first, Says, Decides, decides_by, decides_says, surely, says_map, says-and, says_leb, check_first, check_end, values-first, refusal_first}
use Rattle.format.proofs.ChecksRecords.{due_first, data_first}

-- ---- 11
-- a header or an item is due at a place
abbrev is_place : (f : File) (place : ℕ) → Bool
is_place f place = eqb (due_behind 0 (take (body_place f place) f.body)) 0

abbrev place_test : (f : File) (place : ℕ) → Bool
place_test f place = ltb f.part_length place && leb (body_place f place) (length f.body) && is_place f place

module _ (f : File) (place : ℕ) where
  start_place : (s : StartsAt f place) → (f.part_length < place) × (body_place f place ≡ length s.front) × (body_place f place < length f.body) × (take (body_place f place) f.body ≡ s.front)
  start_place s = (omega (arith, s.number), at, omega (arith, at, size), rw (at, s.whole) (take-append_seam s.front (s.it ∷ s.behind)))
    where
      at : body_place f place ≡ length s.front
      at = omega (arith, s.number)

      size : length f.body ≡ length s.front + suc (length s.behind)
      size = ap length s.whole ∙ length-append s.front (s.it ∷ s.behind)

  place_start : f.part_length < place → body_place f place < length f.body → due_behind 0 (take (body_place f place) f.body) ≡ 0 → StartsAt f place
  place_start l u d = record {
    front = take (body_place f place) f.body;
    it = get_or f.body (body_place f place) absent;
    behind = drop (suc (body_place f place)) f.body;
    whole = sym (take-append-drop (body_place f place) f.body) ∙ ap (λ (x : List View). take (body_place f place) f.body ++ x) (drop-cons f.body (body_place f place) absent u);
    due = d;
    number = omega (arith, length-take-le (body_place f place) f.body (omega arith));
  }

  starts_decides : Decides (ltb f.part_length place && ltb (body_place f place) (length f.body) && is_place f place) (StartsAt f place)
  starts_decides = decides_by (λ e. let x = and-true (ltb f.part_length place && ltb (body_place f place) (length f.body)) _ e in let y = and-true (ltb f.part_length place) _ x.0 in place_start (ltb-true _ _ y.0) (ltb-true _ _ y.1) (eqb-true _ _ x.1)) (λ s. let h = start_place s in true_and _ _ (true_and _ _ (lt-ltb _ _ h.0) (lt-ltb _ _ h.2)) (rw h.3 (eq-eqb _ _ s.due)))

  start_is : (s : StartsAt f place) → get_or f.body (body_place f place) absent ≡ s.it
  start_is s = let h = start_place s in rw (h.1, s.whole) (get_or-append_seam s.front s.it s.behind absent)

  removal_says : Says (ltb f.part_length place && ltb (body_place f place) (length f.body) && is_place f place && not (is_head (get_or f.body (body_place f place) absent).kind)) ((StartsAt f place → ⊥) ⊎ ((now : StartsAt f place) × (is_head now.it.kind ≡ true)))
  removal_says = go _ _ starts_decides refl
    where
      go : (t u : Bool) → Decides t (StartsAt f place) → is_head (get_or f.body (body_place f place) absent).kind ≡ u → Says (t && not u) ((StartsAt f place → ⊥) ⊎ ((now : StartsAt f place) × (is_head now.it.kind ≡ true)))
      go false u d e = record { yes = λ q. inl (d.no refl); no = λ q. absurd (false≢true q) }
      go true true d e = record { yes = λ q. let s = d.yes refl in inr (s, ap (λ (x : View). is_head x.kind) (sym (start_is s)) ∙ e); no = λ q. absurd (false≢true q) }
      go true false d e = record { yes = λ q. absurd (false≢true (sym q)); no = λ q. elim [ inl n ↦ n (d.yes refl) | inr x ↦ false≢true (sym e ∙ ap (λ (y : View). is_head y.kind) (start_is x.0) ∙ x.1) ] }

  -- one past the end counts as well, where no data record is due there
  module _ (count : ℕ) (whole : f.part_length + length f.body ≡ count) (closed : due_behind 0 f.body ≡ 0) where
    place_passes : place_test f place ≡ true → (f.part_length < place) × (body_place f place ≤ length f.body) × (due_behind 0 (take (body_place f place) f.body) ≡ 0)
    place_passes e = let x = and-true (ltb f.part_length place && leb (body_place f place) (length f.body)) _ e in let y = and-true (ltb f.part_length place) _ x.0 in (ltb-true _ _ y.0, leb-true _ _ y.1, eqb-true _ _ x.1)

    passes_place : f.part_length < place → body_place f place ≤ length f.body → due_behind 0 (take (body_place f place) f.body) ≡ 0 → place_test f place ≡ true
    passes_place l u d = true_and _ _ (true_and _ _ (lt-ltb _ _ l) (le-leb _ _ u)) (eq-eqb _ _ d)

    place_says : Says (place_test f place) ((StartsAt f place → ⊥) × (place ≢ suc count))
    place_says = record {
      yes = λ e. (λ s. let h = start_place s in false≢true (sym e ∙ passes_place h.0 (omega (arith, h.2)) (rw h.3 s.due)), λ q. false≢true (sym e ∙ passes_place (omega arith) (omega arith) (ap (due_behind 0) (take_all (body_place f place) f.body (omega arith)) ∙ closed)));
      no = λ e x. let h = place_passes e in go (ltb (body_place f place) (length f.body)) refl h x;
    }
      where
        go : (t : Bool) → ltb (body_place f place) (length f.body) ≡ t → (f.part_length < place) × (body_place f place ≤ length f.body) × (due_behind 0 (take (body_place f place) f.body) ≡ 0) → (StartsAt f place → ⊥) × (place ≢ suc count) → ⊥
        go true q h x = x.0 (place_start h.0 (ltb-true _ _ q) h.2)
        go false q h x = x.1 (omega (arith, ltb-false (body_place f place) (length f.body) q, h.0, h.1))

-- ---- 12
kind_as : (t : RecordType) (r : List ℕ) → (view_as t r).kind ≡ kind_of t
unfolding header_view element_view grid_view net_view other_view
kind_as H r = refl
kind_as E1 r = refl
kind_as E2 r = refl
kind_as E3 r = refl
kind_as E4 r = refl
kind_as E5 r = refl
kind_as E6 r = refl
kind_as E7 r = refl
kind_as E8 r = refl
kind_as G r = refl
kind_as T r = refl
kind_as other r = refl

pub view-kind : (r : List ℕ) → (view r).kind ≡ kind_of (type_of r)
unfolding view
view-kind r = kind_as (type_of r) r

item_type : (t : RecordType) → Decides (not (is_head (kind_of t))) (t ≢ H)
item_type H = record { yes = λ e. absurd (false≢true e); no = λ e n. n refl }
item_type E1 = record { yes = λ e q. let x : ◌≡◌ {A = ℕ} 0 1 = cc in omega arith; no = λ e. absurd (false≢true (sym e)) }
item_type E2 = record { yes = λ e q. let x : ◌≡◌ {A = ℕ} 0 1 = cc in omega arith; no = λ e. absurd (false≢true (sym e)) }
item_type E3 = record { yes = λ e q. let x : ◌≡◌ {A = ℕ} 0 1 = cc in omega arith; no = λ e. absurd (false≢true (sym e)) }
item_type E4 = record { yes = λ e q. let x : ◌≡◌ {A = ℕ} 0 1 = cc in omega arith; no = λ e. absurd (false≢true (sym e)) }
item_type E5 = record { yes = λ e q. let x : ◌≡◌ {A = ℕ} 0 1 = cc in omega arith; no = λ e. absurd (false≢true (sym e)) }
item_type E6 = record { yes = λ e q. let x : ◌≡◌ {A = ℕ} 0 1 = cc in omega arith; no = λ e. absurd (false≢true (sym e)) }
item_type E7 = record { yes = λ e q. let x : ◌≡◌ {A = ℕ} 0 1 = cc in omega arith; no = λ e. absurd (false≢true (sym e)) }
item_type E8 = record { yes = λ e q. let x : ◌≡◌ {A = ℕ} 0 1 = cc in omega arith; no = λ e. absurd (false≢true (sym e)) }
item_type G = record { yes = λ e q. let x : ◌≡◌ {A = ℕ} 0 1 = cc in omega arith; no = λ e. absurd (false≢true (sym e)) }
item_type T = record { yes = λ e q. let x : ◌≡◌ {A = ℕ} 0 1 = cc in omega arith; no = λ e. absurd (false≢true (sym e)) }
item_type other = record { yes = λ e q. let x : ◌≡◌ {A = ℕ} 0 1 = cc in omega arith; no = λ e. absurd (false≢true (sym e)) }

grid_or_net : (t : RecordType) → Decides (eqb (count_index (kind_of t)) 9) ((t ≡ G) ⊎ (t ≡ T))
grid_or_net H = record { yes = λ e. absurd (false≢true e); no = λ e. elim [ inl q ↦ let x : ◌≡◌ {A = ℕ} 0 1 = cc in omega arith | inr q ↦ let x : ◌≡◌ {A = ℕ} 0 1 = cc in omega arith ] }
grid_or_net E1 = record { yes = λ e. absurd (false≢true e); no = λ e. elim [ inl q ↦ let x : ◌≡◌ {A = ℕ} 0 1 = cc in omega arith | inr q ↦ let x : ◌≡◌ {A = ℕ} 0 1 = cc in omega arith ] }
grid_or_net E2 = record { yes = λ e. absurd (false≢true e); no = λ e. elim [ inl q ↦ let x : ◌≡◌ {A = ℕ} 0 1 = cc in omega arith | inr q ↦ let x : ◌≡◌ {A = ℕ} 0 1 = cc in omega arith ] }
grid_or_net E3 = record { yes = λ e. absurd (false≢true e); no = λ e. elim [ inl q ↦ let x : ◌≡◌ {A = ℕ} 0 1 = cc in omega arith | inr q ↦ let x : ◌≡◌ {A = ℕ} 0 1 = cc in omega arith ] }
grid_or_net E4 = record { yes = λ e. absurd (false≢true e); no = λ e. elim [ inl q ↦ let x : ◌≡◌ {A = ℕ} 0 1 = cc in omega arith | inr q ↦ let x : ◌≡◌ {A = ℕ} 0 1 = cc in omega arith ] }
grid_or_net E5 = record { yes = λ e. absurd (false≢true e); no = λ e. elim [ inl q ↦ let x : ◌≡◌ {A = ℕ} 0 1 = cc in omega arith | inr q ↦ let x : ◌≡◌ {A = ℕ} 0 1 = cc in omega arith ] }
grid_or_net E6 = record { yes = λ e. absurd (false≢true e); no = λ e. elim [ inl q ↦ let x : ◌≡◌ {A = ℕ} 0 1 = cc in omega arith | inr q ↦ let x : ◌≡◌ {A = ℕ} 0 1 = cc in omega arith ] }
grid_or_net E7 = record { yes = λ e. absurd (false≢true e); no = λ e. elim [ inl q ↦ let x : ◌≡◌ {A = ℕ} 0 1 = cc in omega arith | inr q ↦ let x : ◌≡◌ {A = ℕ} 0 1 = cc in omega arith ] }
grid_or_net E8 = record { yes = λ e. absurd (false≢true e); no = λ e. elim [ inl q ↦ let x : ◌≡◌ {A = ℕ} 0 1 = cc in omega arith | inr q ↦ let x : ◌≡◌ {A = ℕ} 0 1 = cc in omega arith ] }
grid_or_net other = record { yes = λ e. absurd (false≢true e); no = λ e. elim [ inl q ↦ let x : ◌≡◌ {A = ℕ} 0 1 = cc in omega arith | inr q ↦ let x : ◌≡◌ {A = ℕ} 0 1 = cc in omega arith ] }
grid_or_net G = record { yes = λ e. inl refl; no = λ e. absurd (false≢true (sym e)) }
grid_or_net T = record { yes = λ e. inr refl; no = λ e. absurd (false≢true (sym e)) }

-- the records of a block
block_size : (block x : List ℕ) (xs : List (List ℕ)) → block_of block ≡ x ∷ xs → (length block ≡ 84 * suc (length xs)) × (chunks (suc (length xs)) block ≡ x ∷ xs)
block_size block x xs = go (eqb (length block % 84) 0) refl
  where
    go : (t : Bool) → eqb (length block % 84) 0 ≡ t → cond t (chunks (length block / 84) block) [] ≡ x ∷ xs → (length block ≡ 84 * suc (length xs)) × (chunks (suc (length xs)) block ≡ x ∷ xs)
    go true q e = (omega (arith, eqb-true (length block % 84) 0 q, count), rw count at e)
      where
        count : length block / 84 ≡ suc (length xs)
        count = sym (length-chunks (length block / 84) block) ∙ ap length e
    go false q e = let x : ◌≡◌ {A = ℕ} 0 1 = cc in absurd (omega arith)

block_records : (block : List ℕ) (o : OneItem block) → block_of block ≡ o.start ∷ o.rest
block_records block o = rw (eq-eqb (length block % 84) 0 (omega (arith, o.size)), count) o.records
  where
    count : length block / 84 ≡ suc (length o.rest)
    count = omega (arith, o.size)

-- data records, each with so many behind it
data_each : (o : ℕ) (s : Data) (front : List (List ℕ)) (r : List ℕ) (behind : List (List ℕ)) → Passes o (length (front ++ r ∷ behind)) s (map view (front ++ r ∷ behind)) → fault_at o (suc (length behind)) s (view r) ≡ 0
data_each o s [] r behind p = p.0
data_each o s (x ∷ front) r behind p = data_each o s front r behind p.1

each_data : (o : ℕ) (s : Data) (rs : List (List ℕ)) → ((front : List (List ℕ)) (r : List ℕ) (behind : List (List ℕ)) → rs ≡ front ++ r ∷ behind → fault_at o (suc (length behind)) s (view r) ≡ 0) → Passes o (length rs) s (map view rs)
each_data o s [] h = tt
each_data o s (x ∷ rs) h = (h [] x rs refl, each_data o s rs (λ front r behind e. h (x ∷ front) r behind (ap (λ (l : List (List ℕ)). x ∷ l) e)))

abbrev is_one_item : List View → Bool
is_one_item [] = false
is_one_item (v ∷ vs) = is_block v vs

fault12_is : (vs : List View) → fault12 vs ≡ unless (is_one_item vs) 12
fault12_is [] = refl
fault12_is (v ∷ vs) = refl

module _ (x : List ℕ) (xs : List (List ℕ)) where
  abbrev Item : Type 0
  Item = (type_of x ≢ H) × (FirstOf (in_order (header_or_item_faults 8 x)) 0) × (length xs ≡ (view x).data_records) × ((front : List (List ℕ)) (r : List ℕ) (behind : List (List ℕ)) → xs ≡ front ++ r ∷ behind → FirstOf (in_order (data_faults (view x).data_held (length behind) r)) 0)

  item_decides : Decides (is_block (view x) (map view xs)) Item
  item_decides = decides_by there back
    where
      there : is_block (view x) (map view xs) ≡ true → Item
      there e = (((item_type (type_of x)).yes (rw (view-kind x) at a.0)), (exactly_first _ _ 0 (due_first 8 nothing x)).0 w.0.0, many, λ front r behind q. (exactly_first _ _ 0 (data_first opened (length behind) (view x).data_held r)).0 (data_each opened (view x).data_held front r behind (rw q at p)))
        where
          a : (not (is_head (view x).kind) ≡ true) × (fine (walk 8 0 nothing 0 0 (view x ∷ map view xs)) && eqb (length (map view xs)) (view x).data_records ≡ true)
          a = and-true _ _ e

          b : (fine (walk 8 0 nothing 0 0 (view x ∷ map view xs)) ≡ true) × (eqb (length (map view xs)) (view x).data_records ≡ true)
          b = and-true _ _ a.1

          w : Walks 8 0 nothing (view x ∷ map view xs)
          w = walk-passes 8 0 nothing 0 0 (view x ∷ map view xs) (fine-none (walk 8 0 nothing 0 0 (view x ∷ map view xs)) b.0)

          many : length xs ≡ (view x).data_records
          many = sym (length-map xs view) ∙ eqb-true (length (map view xs)) (view x).data_records b.1

          opened : ℕ
          opened = open_after 8 0 (view x)

          p : Passes (open_after 8 0 (view x)) (length xs) (view x).data_held (map view xs)
          p = rw (item-data_records (view x) (not-true (is_head (view x).kind) a.0), ← many) at w.0.1

      back : Item → is_block (view x) (map view xs) ≡ true
      back i = true_and _ _ is (true_and _ _ (ap fine (passes-walk 8 0 nothing 0 0 (view x ∷ map view xs) (((exactly_first _ _ 0 (due_first 8 nothing x)).1 i.1, rw due p), ap (λ (k : ℕ). due_behind k (map view xs)) due ∙ due_behind_data (length xs) (map view xs) (length-map xs view)))) (eq-eqb _ _ (length-map xs view ∙ i.2)))
        where
          is : not (is_head (view x).kind) ≡ true
          is = rw (view-kind x) (surely (item_type (type_of x)) i.0)

          due : due_after 0 (view x) ≡ length xs
          due = item-data_records (view x) (not-true (is_head (view x).kind) is) ∙ sym i.2

          p : Passes (open_after 8 0 (view x)) (length xs) (view x).data_held (map view xs)
          p = each_data (open_after 8 0 (view x)) (view x).data_held xs (λ front r behind q. (exactly_first _ _ 0 (data_first (open_after 8 0 (view x)) (length behind) (view x).data_held r)).1 (i.3 front r behind q))

one_item_decides : (block : List ℕ) → Decides (is_one_item (map view (block_of block))) (OneItem block)
one_item_decides block = decides_by (there (block_of block) refl) back
  where
    there : (rs : List (List ℕ)) → block_of block ≡ rs → is_one_item (map view rs) ≡ true → OneItem block
    there [] q e = absurd (false≢true e)
    there (x ∷ xs) q e = let i = (item_decides x xs).yes e in let z = block_size block x xs q in record { start = x; rest = xs; size = z.0; records = z.1; is_item = i.0; passes = i.1; as_many = i.2; rest_passes = i.3 }

    back : OneItem block → is_one_item (map view (block_of block)) ≡ true
    back o = rw (block_records block o) (surely (item_decides o.start o.rest) (o.is_item, o.passes, o.as_many, o.rest_passes))

-- a block alone
pub block_item_lem : (block : List ℕ) (o : OneItem block) → block_item block ≡ given (record { count_index = count_index (view o.start).kind; level = (view o.start).level })
unfolding block_item
block_item_lem block o = rw (fault12_is (map view (block_of block)), surely (one_item_decides block) o, block_records block o)

pub block_none : (block : List ℕ) → (OneItem block → ⊥) → block_item block ≡ refused 12 0
unfolding block_item
block_none block none = go (is_one_item (map view (block_of block))) refl
  where
    go : (t : Bool) → is_one_item (map view (block_of block)) ≡ t → item_in (map view (block_of block)) ≡ refused 12 0
    go true e = absurd (none ((one_item_decides block).yes e))
    go false e = rw (fault12_is (map view (block_of block)), e)

-- ---- 13
one_less_lem : (n : ℕ) → pred n ≡ n - 1
one_less_lem n = omega arith

-- the open level, by the last header or item
last_open : ℕ → List View → ℕ
last_open o [] = o
last_open o (r ∷ rs) = last_open (open_of r.kind r.level) rs

open_last : (o n : ℕ) (xs : List View) → open_behind o n xs ≡ last_open o (headers_and_items n xs)
unfolding last_open
open_last o n [] = refl
open_last o zero (r ∷ xs) = open_last (open_of r.kind r.level) (due_after 0 r) xs
open_last o (suc n) (r ∷ xs) = open_last o n xs

last_open_snoc : (o : ℕ) (front : List View) (r : View) → last_open o (front ++ r ∷ []) ≡ open_of r.kind r.level
unfolding last_open
last_open_snoc o [] r = refl
last_open_snoc o (x ∷ front) r = last_open_snoc _ front r

last_of : (xs : List View) → (xs ≡ []) ⊎ ((front : List View) × ((r : View) × (xs ≡ front ++ r ∷ [])))
last_of [] = inl refl
last_of (x ∷ xs) = inr (elim (last_of xs) [ inl e ↦ ([], (x, ap (λ (l : List View). x ∷ l) e)) | inr h ↦ (x ∷ h.0, (h.1.0, ap (λ (l : List View). x ∷ l) h.1.1)) ])

pub open_is : (before : List View) → OpenLevel before (open_behind 0 0 before)
unfolding last_open
open_is before = go (last_of (headers_and_items 0 before))
  where
    go : (headers_and_items 0 before ≡ []) ⊎ ((front : List View) × ((r : View) × (headers_and_items 0 before ≡ front ++ r ∷ []))) → OpenLevel before (open_behind 0 0 before)
    go (inl e) = before_first e (open_last 0 0 before ∙ ap (last_open 0) e)
    go (inr h) = by_kind h.0 h.1.0 h.1.1 (is_head h.1.0.kind) refl
      where
        by_kind : (front : List View) (r : View) → headers_and_items 0 before ≡ front ++ r ∷ [] → (t : Bool) → is_head r.kind ≡ t → OpenLevel before (open_behind 0 0 before)
        by_kind front r e true q = behind_header front r e q (open_last 0 0 before ∙ ap (last_open 0) e ∙ last_open_snoc 0 front r ∙ rw q)
        by_kind front r e false q = behind_item front r e q (open_last 0 0 before ∙ ap (last_open 0) e ∙ last_open_snoc 0 front r ∙ rw q (one_less_lem r.level))

pub open_only : (before : List View) (o : ℕ) → OpenLevel before o → o ≡ open_behind 0 0 before
unfolding last_open
open_only before o (before_first e q) = q ∙ sym (open_last 0 0 before ∙ ap (last_open 0) e)
open_only before o (behind_header front r e h q) = q ∙ sym (open_last 0 0 before ∙ ap (last_open 0) e ∙ last_open_snoc 0 front r ∙ rw h)
open_only before o (behind_item front r e h q) = q ∙ sym (open_last 0 0 before ∙ ap (last_open 0) e ∙ last_open_snoc 0 front r ∙ rw h (one_less_lem r.level))

module _ (f : File) (place level : ℕ) where
  abbrev pre : List View
  pre = take (body_place f place) f.body

  near_says : Says (leb level (suc (open_behind 0 0 pre))) ((opened : ℕ) × OpenLevel pre opened × (opened + 1 < level))
  near_says = record {
    yes = λ e. (open_behind 0 0 pre, open_is pre, omega (arith, leb-false level (suc (open_behind 0 0 pre)) e));
    no = λ e x. omega (arith, leb-true level (suc (open_behind 0 0 pre)) e, open_only pre x.0 x.1, x.2);
  }

  now_says : f.part_length < place → due_behind 0 pre ≡ 0 → Says (not_below level (drop (body_place f place) f.body)) ((now : StartsAt f place) × (level < now.it.level))
  now_says l d = go (ltb (body_place f place) (length f.body)) refl
    where
      there : View
      there = get_or f.body (body_place f place) absent

      go : (t : Bool) → ltb (body_place f place) (length f.body) ≡ t → Says (not_below level (drop (body_place f place) f.body)) ((now : StartsAt f place) × (level < now.it.level))
      go true q = rw (drop-cons f.body (body_place f place) absent (ltb-true _ _ q)) (record {
        yes = λ e. let s = place_start f place l (ltb-true _ _ q) d in (s, omega (arith, leb-false there.level level e, ap (λ (x : View). x.level) (start_is f place s)));
        no = λ e x. omega (arith, leb-true there.level level e, ap (λ (y : View). y.level) (start_is f place x.0), x.1);
      })
      go false q = rw (drop_of_length-le f.body (ltb-false _ _ q)) (record { yes = λ e. absurd (false≢true (sym e)); no = λ e x. omega (arith, ltb-false (body_place f place) (length f.body) q, (start_place f place x.0).2) })

-- ---- 14
above_it : (l : ℕ) (pre : List View) (h : HeaderAbove l pre) → get_or pre (pred (above_in l pre)) absent ≡ h.it
above_it l pre h = above_is l pre (record { front = h.front; it = h.it; back = h.between; whole = h.whole; closed = h.due; is_head_lem = h.header; is_level = omega (arith, h.one_less); clear = rw (level) at h.last })
  where
    level : h.it.level ≡ pred l
    level = omega (arith, h.one_less)

-- by the header above, where there is one
module _ (l : ℕ) (pre : List View) (start : List ℕ) (above : HeaderAbove l pre) where
  abbrev header : View
  header = get_or pre (pred (above_in l pre)) absent

  abbrev GridOrNetStart : Type 0
  GridOrNetStart = (type_of start ≡ G) ⊎ (type_of start ≡ T)

  nine_says : Says (not (eqb (count_index (view start).kind) 9) || leb (header.count (count_index (view start).kind) + 1) 9) (GridOrNetStart × (9 < header.count 9 + 1))
  nine_says = rw (view-kind start) (go (eqb (count_index (kind_of (type_of start))) 9) refl (grid_or_net (type_of start)))
    where
      go : (t : Bool) → eqb (count_index (kind_of (type_of start))) 9 ≡ t → Decides t GridOrNetStart → Says (not t || leb (header.count (count_index (kind_of (type_of start))) + 1) 9) (GridOrNetStart × (9 < header.count 9 + 1))
      go true q d = rw (eqb-true (count_index (kind_of (type_of start))) 9 q) (record { yes = λ e. (d.yes refl, leb-false (header.count 9 + 1) 9 e); no = λ e x. omega (arith, leb-true (header.count 9 + 1) 9 e, x.1) })
      go false q d = record { yes = λ e. absurd (false≢true (sym e)); no = λ e x. d.no refl x.0 }

  header-says : Says (leb (header.total + 1) 99999 && (not (eqb (count_index (view start).kind) 9) || leb (header.count (count_index (view start).kind) + 1) 9)) ((above : HeaderAbove l pre) × ((99999 < above.it.total + 1) ⊎ (((type_of start ≡ G) ⊎ (type_of start ≡ T)) × (9 < above.it.count 9 + 1))))
  header-says = says_map (λ x. (above, rw (above_it l pre above) at x)) (λ x. rw (above_it l pre x.0) x.1) (says-and (says_leb (header.total + 1) 99999) nine_says)

-- ---- 11 to 15
module _ (b : Buffer) (a : AcceptedSheet b.used b.bytes) where
  f : File
  f = sheet_of b

  closed : due_behind 0 (sheet_of b).body ≡ 0
  closed = (accepted-list a).ok.walks.1

  -- the buffer behind the records
  tail-length : b.used + length (list_of b).tail ≡ length b.bytes
  tail-length = omega (arith, length-drop b.used b.bytes, inside a)

  module _ (place : ℕ) (block : List ℕ) where
    abbrev views : List View
    views = map view (block_of block)

    abbrev start : View
    start = view (take 84 block)

    module _ (i : OneItem block) where
      taken : i.start ≡ take 84 block
      taken = cc i.records

      block_view : get_or views 0 absent ≡ start
      block_view = rw (block_records block i) (ap view taken)

      block_count : length views ≡ length block / 84
      block_count = length-map (block_of block) view ∙ ap length (block_records block i) ∙ omega (arith, i.size)

      block_low : 2 ≤ start.level
      block_low = rw (item-low start is) at (good 8 nothing start ((exactly_first _ _ 0 (due_first 8 nothing (take 84 block))).1 (rw taken at i.passes))).low
        where
          is : is_head start.kind ≡ false
          is = not-true (is_head start.kind) (rw (view-kind (take 84 block)) (surely (item_type (type_of (take 84 block))) (rw taken at i.is_item)))

      near13 : leb (get_or views 0 absent).level (suc (open_behind 0 0 (before_place b place block))) && not_below (get_or views 0 absent).level (drop (body_place (sheet_of b) place) (sheet_of b).body) ≡ true → start.level ≤ suc (open_behind 0 0 (before_place b place block))
      near13 e = leb-true _ _ (and-true _ _ (rw block_view at e)).0

    module _ (i : OneItem block) (at : place_test (sheet_of b) place ≡ true) where
      here : ((sheet_of b).part_length < place) × (body_place (sheet_of b) place ≤ length (sheet_of b).body) × (due_behind 0 (take (body_place (sheet_of b) place) (sheet_of b).body) ≡ 0)
      here = place_passes (sheet_of b) place (b.used / 84) (all-records a) closed at

      says13 : Says (leb (get_or views 0 absent).level (suc (open_behind 0 0 (before_place b place block))) && not_below (get_or views 0 absent).level (drop (body_place (sheet_of b) place) (sheet_of b).body)) (LevelWrong b place block)
      says13 = rw (block_view i) (says-and (near_says (sheet_of b) place start.level) (now_says (sheet_of b) place start.level here.0 here.2))

      above : start.level ≤ suc (open_behind 0 0 (before_place b place block)) → HeaderAbove start.level (before_place b place block)
      above near = split_above start.level (before_place b place block) (omega (arith, block_low i)) (find_in (pred start.level) nothing (before_place b place block) (passed a place) (omega (arith, block_low i)) (omega (arith, block_low i)))

      says14 : start.level ≤ suc (open_behind 0 0 (before_place b place block)) → Says (leb ((above_block (sheet_of b) place views).total + 1) 99999 && (not (eqb (count_index (get_or views 0 absent).kind) 9) || leb ((above_block (sheet_of b) place views).count (count_index (get_or views 0 absent).kind) + 1) 9) && leb ((sheet_of b).part_length + length (sheet_of b).body + length views) 200000) (TooMany b place block)
      says14 near = rw (block_view i, all-records a, block_count i) (says-and (header-says start.level (before_place b place block) (take 84 block) (above near)) (says_leb (b.used / 84 + length block / 84) 200000))

      says15 : Says (leb (84 * length views) (length (list_of b).tail)) (TooShort b place block)
      says15 = record { yes = λ e. omega (arith, leb-false (84 * length views) (length (list_of b).tail) e, tail-length, block_count i, i.size); no = λ e l. omega (arith, leb-true (84 * length views) (length (list_of b).tail) e, tail-length, block_count i, i.size) }

    insertion_first : FirstOf (edit_checks (insert place block) b) (insert_fault (sheet_of b) place (list_of b).tail views 200000)
    insertion_first = check_first 10 (place_test (sheet_of b) place) _ _ _ (place_says (sheet_of b) place (b.used / 84) (all-records a) closed) (λ e11. rw (fault12_is views) (check_first 11 (is_one_item views) _ _ _ (decides_says (one_item_decides block)) (λ e12. let i = (one_item_decides block).yes e12 in check_first 12 _ _ _ _ (says13 i e11) (λ e13. check_first 13 _ _ _ _ (says14 i e11 (near13 i e13)) (λ e14. check_end 14 _ _ (says15 i e11))))))

  removal_first : (place : ℕ) → FirstOf (edit_checks (remove place) b) (remove11 (sheet_of b) place)
  removal_first place = check_end 10 _ _ (removal_says (sheet_of b) place)

  concluded : (checks : List Check) (v : ℕ) → FirstOf checks v → (old new : RecordList) → AnswersFirst checks (conclude v old new).reply
  concluded checks zero f old new = values-first checks (84 * length new.records) f
  concluded checks (suc v) f old new = refusal_first checks v f

  pub edit_first : (edit : Edit) → AnswersFirst (edit_checks edit b) (call edit b).reply
  unfolding call plain
  edit_first (insert place block) = rw a.judged (concluded _ _ (insertion_first place block) _ _)
  edit_first (remove place) = rw a.judged (concluded _ _ (removal_first place) _ _)
