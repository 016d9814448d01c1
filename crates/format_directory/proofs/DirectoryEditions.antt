-- Order 13: which edition a last record names, 27, and that the new calls read both editions; that the old calls refuse the second one; what the totals and the last
-- records of the layers come to. Assumes nothing.
use mathlib.Core.Path.{◌≡◌, refl, ap, ap₂, sym, subst, ◌∙◌}
use mathlib.Core.Logic.{◌⊎◌, inl, inr, ◌↔◌}
use mathlib.Core.Bool.{Bool, true, false, cond, not, ◌&&◌, ◌||◌, false≢true}
use mathlib.Core.List.{List, [], ◌∷◌, ◌++◌, map}
use Prim.Native.Nat.{ℕ, zero, suc, ◌+◌, ◌/◌, ◌≤◌}
use native.Mathlib.Omega.{arith}
use lib.Dec.{eqb}
use lib.IntN.{pos}
use lib.ListN.{length, take, drop}
use borrow.Author.Tests.{eq-eqb}
use Rattle.format.specs.Text.{bytes, same}
use Rattle.format.specs.Basics.{Answer, given, refused, Fault, none, fault, chunks}
use Rattle.format.specs.Column.{written}
use Rattle.format.specs.Layout.{column}
use Rattle.format.specs.Record.{Kind, head, item, neither, is_head, View, nothing, view}
use Rattle.format.specs.Sheet.{part_length, sheet_fault}
use Rattle.format.specs.Judge.{due_after, headers_and_items, is_header_at, items, file_of, Counts, after_stage_one, after_part, body_fault, verdict, judge, judge_records, judge_sheet}
use Rattle.format.proofs.Basics.{and-true, true_and}
use Rattle.format.proofs.Above.{data_records-head}
use Rattle.format.proofs.ChecksParts.{same_decides}
use Rattle.format.proofs.JudgeWalks.{Passes, Good, good}
use Rattle.format.proofs.JudgeStages.{stage_given}
use Rattle.format.proofs.JudgeAccepted.{Ok, accepted_ok}
use Rattle.format_directory.specs.declared.Edition.{Edition}
use Rattle.format_directory.specs.declared.Edition.TheVariants.{One, Two}
use Rattle.format_directory.specs.Directory.{Layer, layer_body, layers_from, layers_of, last_of, end_letters, end_listed, closing, used_ok, last_record, pointer_in, judge_edition, judge_directory, append_directory, sheet_in, is_second, edition_of, edition_ok, after_edition, judge_either_edition}
use Rattle.format_directory.specs.DirectoryChecks.{joined, ListsLayers, totals, Meet, UsedFails, wrong_closing, StartsYE, StatesTwo, EitherRefusal, either_length, wrong_edition, of_first, of_second}
use Rattle.format_directory.proofs.DirectoryRecords.{two_end_letters, column-at, same_self}
use Rattle.format_directory.proofs.DirectoryLayers.{one_more, body-length, entries}
use Rattle.format_directory.proofs.DirectoryBodies.{first_header, body_ends, totals-all}
use Rattle.format_directory.proofs.DirectoryJudged.{RightDirectory, accepted-right, right-last, right-accepted, our_last, our_edition, our_used, accepted_exactly}
use Rattle.format_directory.proofs.DirectoryWords.{sheet-accepted, joined_are, right-lists, lists-right}
use Rattle.format_directory.proofs.DirectoryChecks.{used-wrong, used-right, used-fine, used_bad, column-last, first-letters, letters-first, stage_refused, judged, edition_refused, refused_exactly}

-- ---- which edition a closing record is of
edition_of_closing : (e : Edition) (p c : ℕ) → edition_of (closing e p c) ≡ e
unfolding is_second closing bytes
edition_of_closing One p c = refl
edition_of_closing Two p c = refl

edition_column : (p c : ℕ) → column 16 7 (closing Two p c) ≡ written 7 (pos 2)
unfolding closing
edition_column p c = column-at (end_letters Two) (end_listed Two p c) (two_end_letters Two) 2 (omega arith)

closing_edition_ok : (e : Edition) (p c : ℕ) → edition_ok (closing e p c) ≡ true
unfolding edition_ok is_second closing bytes
closing_edition_ok One p c = refl
closing_edition_ok Two p c = ap (λ (x : List ℕ). same x (written 7 (pos 2))) (edition_column p c) ∙ same_self (written 7 (pos 2))

pub edition_of_right : (e : Edition) (used : ℕ) (b : List ℕ) (c : Counts) → RightDirectory e used b c → (edition_of (last_record used b) ≡ e) × (edition_ok (last_record used b) ≡ true)
edition_of_right e used b c r = (ap edition_of (right-last e used b c r) ∙ edition_of_closing e (pointer_in (last_record used b)) (length (layers_of (sheet_in used b))), ap edition_ok (right-last e used b c r) ∙ closing_edition_ok e (pointer_in (last_record used b)) (length (layers_of (sheet_in used b))))

-- ---- "new ones read both"
edition_given : (t : Bool) (i : ℕ) (v : Answer Counts) (c : Counts) → after_edition t i v ≡ given c → (t ≡ true) × (v ≡ given c)
edition_given true i v c e = (refl, e)
edition_given false i v c e = let z : ◌≡◌ {A = ℕ} 0 1 = cc in absurd (omega arith)

-- what is accepted is right, of the edition that its last record names
pub either_right : (used : ℕ) (b : List ℕ) (c : Counts) → judge_either_edition used b ≡ given c → RightDirectory (edition_of (last_record used b)) used b c
unfolding judge_either_edition
either_right used b c h = let p = stage_given (used_ok used b) (after_edition (edition_ok (last_record used b)) (used / 84) (judge_edition (edition_of (last_record used b)) used b)) c h in accepted-right (edition_of (last_record used b)) used b c p.0 (edition_given (edition_ok (last_record used b)) (used / 84) (judge_edition (edition_of (last_record used b)) used b) c p.1).1

-- and what is right, of whichever edition, is accepted
pub right_either : (e : Edition) (used : ℕ) (b : List ℕ) (c : Counts) → RightDirectory e used b c → judge_either_edition used b ≡ given c
unfolding judge_either_edition
right_either e used b c r = ap₂ after_stage_one r.whole (ap₂ (λ (t : Bool) (x : Edition). after_edition t (used / 84) (judge_edition x used b)) (edition_of_right e used b c r).1 (edition_of_right e used b c r).0) ∙ right-accepted e used b c r

pub either_exactly : (used : ℕ) (b : List ℕ) (c : Counts) → judge_either_edition used b ≡ given c ↔ (ListsLayers One used b c ⊎ ListsLayers Two used b c)
either_exactly used b c = (λ h. go (edition_of (last_record used b)) (either_right used b c h), back)
  where
    go : (e : Edition) → RightDirectory e used b c → ListsLayers One used b c ⊎ ListsLayers Two used b c
    go One r = inl (right-lists One used b c r)
    go Two r = inr (right-lists Two used b c r)

    back : ListsLayers One used b c ⊎ ListsLayers Two used b c → judge_either_edition used b ≡ given c
    back (inl l) = right_either One used b c (lists-right One used b c l)
    back (inr l) = right_either Two used b c (lists-right Two used b c l)

pub old_accepted : (used : ℕ) (b : List ℕ) (c : Counts) → judge_directory used b ≡ given c → judge_either_edition used b ≡ given c
old_accepted used b c h = right_either One used b c ((accepted_exactly used b c).0 h)

-- "ours, appended by its own call, passes"
pub ours_pass_either : (e : Edition) (used : ℕ) (b : List ℕ) (u : ℕ) → (append_directory e used b).answer ≡ given u → judge_either_edition u (append_directory e used b).bytes ≡ judge_sheet used b
unfolding judge_either_edition
ours_pass_either e used b u h = ap₂ after_stage_one (our_used e used b u h) (ap₂ (λ (t : Bool) (x : Edition). after_edition t (u / 84) (judge_edition x u (append_directory e used b).bytes)) (ap edition_ok (our_last e used b u h) ∙ closing_edition_ok e (suc (used / 84)) (length (layers_of (chunks (used / 84) b)))) (ap edition_of (our_last e used b u h) ∙ edition_of_closing e (suc (used / 84)) (length (layers_of (chunks (used / 84) b))))) ∙ our_edition e used b u h

-- ---- 27: the last record "starts "YE" but its edition column is not 2 in written form", "directly after 1"
module _ (used : ℕ) (b : List ℕ) (ok : used_ok used b ≡ true) where
  second_starts : is_second (last_record used b) ≡ true → StartsYE used b
  unfolding is_second bytes
  second_starts h = first-letters used b ok 89 69 h

  starts_second : StartsYE used b → is_second (last_record used b) ≡ true
  unfolding is_second bytes
  starts_second h = letters-first used b ok 89 69 h.0 h.1

  first_starts : is_second (last_record used b) ≡ false → StartsYE used b → ⊥
  first_starts h s = false≢true (sym h ∙ starts_second s)

  not_second : (StartsYE used b → ⊥) → is_second (last_record used b) ≡ false
  not_second n = go (is_second (last_record used b)) refl
    where
      go : (t : Bool) → is_second (last_record used b) ≡ t → is_second (last_record used b) ≡ false
      go true e = absurd (n (second_starts e))
      go false e = e

  -- the edition column of a last record "YE"
  ok_states : is_second (last_record used b) ≡ true → edition_ok (last_record used b) ≡ true → StatesTwo used b
  unfolding edition_ok column
  ok_states s h = sym (column-last used b ok 16 (omega arith)) ∙ (same_decides (take 7 (drop 16 (last_record used b))) (written 7 (pos 2))).yes (ap (λ (t : Bool). not t || same (take 7 (drop 16 (last_record used b))) (written 7 (pos 2))) (sym s) ∙ h)

  states_ok : StatesTwo used b → edition_ok (last_record used b) ≡ true
  unfolding edition_ok column
  states_ok h = go (is_second (last_record used b))
    where
      go : (t : Bool) → not t || same (take 7 (drop 16 (last_record used b))) (written 7 (pos 2)) ≡ true
      go true = ap (λ (x : List ℕ). same x (written 7 (pos 2))) (column-last used b ok 16 (omega arith) ∙ h) ∙ same_self (written 7 (pos 2))
      go false = refl

  first_ok : is_second (last_record used b) ≡ false → edition_ok (last_record used b) ≡ true
  unfolding edition_ok
  first_ok h = ap (λ (t : Bool). not t || same (column 16 7 (last_record used b)) (written 7 (pos 2))) h

  wrong_second : edition_ok (last_record used b) ≡ false → is_second (last_record used b) ≡ true
  wrong_second h = go (is_second (last_record used b)) refl
    where
      go : (t : Bool) → is_second (last_record used b) ≡ t → is_second (last_record used b) ≡ true
      go true e = e
      go false e = absurd (false≢true (sym h ∙ first_ok e))

-- an edition that may be read, then what it asks
either_is : (used : ℕ) (b : List ℕ) (t : Bool) → is_second (last_record used b) ≡ t → edition_ok (last_record used b) ≡ true → judge_either_edition used b ≡ judged (cond t Two One) used b
unfolding judge_either_edition
either_is used b t s h = ap₂ (λ (x y : Bool). after_stage_one (used_ok used b) (after_edition x (used / 84) (judge_edition (cond y Two One) used b))) h s

edition_refusal : (t : Bool) (last : ℕ) (answer : Answer Counts) (number at : ℕ) → after_edition t last answer ≡ refused number at → ((t ≡ false) × (number ≡ 27) × (at ≡ last)) ⊎ (t ≡ true)
edition_refusal true last answer number at e = inr refl
edition_refusal false last answer number at e = let q : number ≡ 27 = cc in let r : at ≡ last = cc in inl (refl, q, r)

module _ (used : ℕ) (b : List ℕ) (number at : ℕ) where
  either_refusal : judge_either_edition used b ≡ refused number at → EitherRefusal used b number at
  unfolding judge_either_edition
  either_refusal h = first (stage_refused (used_ok used b) (after_edition (edition_ok (last_record used b)) (used / 84) (judge_edition (edition_of (last_record used b)) used b)) number at h)
    where
      first : ((used_ok used b ≡ false) × (number ≡ 1) × (at ≡ 0)) ⊎ ((used_ok used b ≡ true) × (after_edition (edition_ok (last_record used b)) (used / 84) (judge_edition (edition_of (last_record used b)) used b) ≡ refused number at)) → EitherRefusal used b number at
      first (inl x) = either_length (used-wrong used b x.0) x.1 x.2
      first (inr x) = second (edition_refusal (edition_ok (last_record used b)) (used / 84) (judge_edition (edition_of (last_record used b)) used b) number at x.1)
        where
          fine : UsedFails used b → ⊥
          fine = used-right used b x.0

          third : (t : Bool) → is_second (last_record used b) ≡ t → edition_ok (last_record used b) ≡ true → EitherRefusal used b number at
          third true s k = of_second fine (second_starts used b x.0 s) (ok_states used b x.0 s k) ((edition_refused Two used b number at).0 (sym (either_is used b true s k) ∙ h))
          third false s k = of_first fine (first_starts used b x.0 s) ((edition_refused One used b number at).0 (sym (either_is used b false s k) ∙ h))

          second : ((edition_ok (last_record used b) ≡ false) × (number ≡ 27) × (at ≡ used / 84)) ⊎ (edition_ok (last_record used b) ≡ true) → EitherRefusal used b number at
          second (inl y) = wrong_edition fine (second_starts used b x.0 (wrong_second used b x.0 y.0)) (λ s. false≢true (sym y.0 ∙ states_ok used b x.0 s)) y.1 y.2
          second (inr y) = third (is_second (last_record used b)) refl y

  refusal_either : EitherRefusal used b number at → judge_either_edition used b ≡ refused number at
  unfolding judge_either_edition
  refusal_either (either_length w n r) = ap (λ (t : Bool). after_stage_one t (after_edition (edition_ok (last_record used b)) (used / 84) (judge_edition (edition_of (last_record used b)) used b))) (used_bad used b w) ∙ sym (ap₂ refused n r)
  refusal_either (wrong_edition fine y s n r) = ap₂ (λ (t u : Bool). after_stage_one t (after_edition u (used / 84) (judge_edition (edition_of (last_record used b)) used b))) (used-fine used b fine) (bad (edition_ok (last_record used b)) refl) ∙ sym (ap₂ refused n r)
    where
      bad : (t : Bool) → edition_ok (last_record used b) ≡ t → edition_ok (last_record used b) ≡ false
      bad true e = absurd (s (ok_states used b (used-fine used b fine) (starts_second used b (used-fine used b fine) y) e))
      bad false e = e
  refusal_either (of_first fine y d) = let k = not_second used b (used-fine used b fine) y in either_is used b false k (first_ok used b (used-fine used b fine) k) ∙ (edition_refused One used b number at).1 d
  refusal_either (of_second fine y s d) = either_is used b true (starts_second used b (used-fine used b fine) y) (states_ok used b (used-fine used b fine) s) ∙ (edition_refused Two used b number at).1 d

pub either_refused : (used : ℕ) (b : List ℕ) (number at : ℕ) → judge_either_edition used b ≡ refused number at ↔ EitherRefusal used b number at
either_refused used b number at = (either_refusal used b number at, refusal_either used b number at)

-- ---- "The old calls stay and refuse it with 19 at the last record": whatever ends in "YE"
pub old_refuses : (used : ℕ) (b : List ℕ) → (UsedFails used b → ⊥) → StartsYE used b → judge_directory used b ≡ refused 19 (used / 84)
old_refuses used b fine y = (refused_exactly used b 19 (used / 84)).1 (wrong_closing fine (λ p w. let z : ◌≡◌ {A = ℕ} 89 90 = sym y.0 ∙ w.first-letter in omega arith) refl refl)

-- "new ones read both": of a last record that does not start "YE" they say what the old ones do, refusals too
pub judged_alike : (used : ℕ) (b : List ℕ) → (StartsYE used b → ⊥) → judge_either_edition used b ≡ judge_directory used b
unfolding judge_either_edition judge_directory
judged_alike used b n = go (used_ok used b) refl
  where
    go : (t : Bool) → used_ok used b ≡ t → after_stage_one (used_ok used b) (after_edition (edition_ok (last_record used b)) (used / 84) (judge_edition (edition_of (last_record used b)) used b)) ≡ after_stage_one (used_ok used b) (judge_edition One used b)
    go false e = ap (λ (t : Bool). after_stage_one t (after_edition (edition_ok (last_record used b)) (used / 84) (judge_edition (edition_of (last_record used b)) used b))) e ∙ sym (ap (λ (t : Bool). after_stage_one t (judge_edition One used b)) e)
    go true e = let k = not_second used b e n in ap (after_stage_one (used_ok used b)) (ap₂ (λ (t : Bool) (x : Edition). after_edition t (used / 84) (judge_edition x used b)) (first_ok used b e k) (ap (λ (t : Bool). cond t Two One) k))

-- ---- the totals of all layers add up to the sheet's items
-- nothing stands before the first layer of an accepted sheet
none_before : (body : List View) → Passes 0 0 nothing body → layer_body 0 body ≡ []
none_before [] p = refl
none_before (r ∷ rs) p = ap (λ (t : Bool). cond t [] (r ∷ layer_body (due_after 0 r) rs)) (is_top r.kind refl)
  where
    g : Good 0 r
    g = good 0 nothing r p.0

    is_top : (k : Kind) → r.kind ≡ k → is_head r.kind && eqb r.level 1 ≡ true
    is_top head e = true_and _ _ (ap is_head e) (eq-eqb r.level 1 (omega (arith, g.near, low)))
      where
        low : 1 ≤ r.level
        low = rw e at g.low
    is_top (item j) e = absurd (omega (arith, g.near, low))
      where
        low : 2 ≤ r.level
        low = rw e at g.low
    is_top neither e = absurd (omega (arith, g.near, low))
      where
        low : 2 ≤ r.level
        low = rw e at g.low

totals-sum : (R : List (List ℕ)) (c : Counts) → judge_records R ≡ given c → totals (entries (layers_of R)) ≡ c.items
unfolding judge_records layers_of judge
totals-sum R c e = go (sheet_fault R) (body_fault (file_of R)) refl e
  where
    go : (x y : Fault) → body_fault (file_of R) ≡ y → after_part x (verdict y ((file_of R).part_length + length (file_of R).body) (items (headers_and_items 0 (file_of R).body))) ≡ given c → totals (entries (layers_from 0 (suc (file_of R).part_length) (file_of R).body)) ≡ c.items
    go none none p e = omega (arith, totals-all 0 (suc (file_of R).part_length) (file_of R).body, nothing_left, its)
      where
        its : items (headers_and_items 0 (file_of R).body) ≡ c.items
        its = cc

        k : Ok (file_of R)
        k = accepted_ok (file_of R) ((file_of R).part_length + length (file_of R).body) (items (headers_and_items 0 (file_of R).body)) (ap (λ (f : Fault). verdict f ((file_of R).part_length + length (file_of R).body) (items (headers_and_items 0 (file_of R).body))) p)

        nothing_left : items (headers_and_items 0 (layer_body 0 (file_of R).body)) ≡ 0
        nothing_left = ap (λ (x : List View). items (headers_and_items 0 x)) (none_before (file_of R).body k.walks.0)
    go none (fault a b) p e = let z : ◌≡◌ {A = ℕ} 0 1 = cc in absurd (omega arith)
    go (fault a b) y p e = let z : ◌≡◌ {A = ℕ} 0 1 = cc in absurd (omega arith)

pub totals-add-up : (e : Edition) (used : ℕ) (b : List ℕ) (c : Counts) (l : ListsLayers e used b c) → totals (joined l.layers) ≡ c.items
totals-add-up e used b c l = ap totals (joined_are e used b c l) ∙ totals-sum (chunks c.records b) c (sheet-accepted b c l.sheet).judged

-- ---- each layer ends before the next one's header, the last one with the sheet
meet_cons : (end : ℕ) (l : Layer) (ls : List Layer) → suc (last_of l) ≡ first_header end ls → Meet end (entries ls) → Meet end (entries (l ∷ ls))
meet_cons end l [] e m = e
meet_cons end l (k ∷ ls) e m = (e, m)

layers_meet : (n i : ℕ) (rs : List View) → Meet (i + length rs) (entries (layers_from n i rs))
unfolding last_of
layers_meet n i [] = tt
layers_meet zero i (r ∷ rs) = go (is_header_at 1 r) refl (subst (λ (j : ℕ). Meet j (entries (layers_from (due_after 0 r) (suc i) rs))) (one_more i (length rs)) (layers_meet (due_after 0 r) (suc i) rs))
  where
    go : (t : Bool) → is_header_at 1 r ≡ t → Meet (i + suc (length rs)) (entries (layers_from (due_after 0 r) (suc i) rs)) → Meet (i + suc (length rs)) (entries (cond t (record { header = i; body = layer_body 0 rs } ∷ []) [] ++ layers_from (due_after 0 r) (suc i) rs))
    go true e m = meet_cons (i + suc (length rs)) (record { header = i; body = layer_body 0 rs }) (layers_from (due_after 0 r) (suc i) rs) ((let q : suc (i + length (layer_body 0 rs)) ≡ suc i + length (layer_body 0 rs) = omega arith in q) ∙ ap (λ (d : ℕ). suc i + length (layer_body d rs)) (sym (data_records-head r (and-true (is_head r.kind) (eqb r.level 1) e).0)) ∙ body_ends (due_after 0 r) (suc i) rs ∙ ap (λ (j : ℕ). first_header j (layers_from (due_after 0 r) (suc i) rs)) (one_more i (length rs))) m
    go false e m = m
layers_meet (suc n) i (r ∷ rs) = subst (λ (j : ℕ). Meet j (entries (layers_from n (suc i) rs))) (one_more i (length rs)) (layers_meet n (suc i) rs)

pub layers_end : (e : Edition) (used : ℕ) (b : List ℕ) (c : Counts) (l : ListsLayers e used b c) → Meet (suc c.records) (joined l.layers)
unfolding layers_of
layers_end e used b c l = subst (Meet (suc c.records)) (sym (joined_are e used b c l)) (subst (λ (j : ℕ). Meet j (entries (layers_of R))) end (layers_meet 0 (suc (part_length R)) (map view (drop (part_length R) R))))
  where
    R : List (List ℕ)
    R = chunks c.records b

    end : suc (part_length R) + length (map view (drop (part_length R) R)) ≡ suc c.records
    end = body-length R c (sheet-accepted b c l.sheet).judged ∙ ap suc (sheet-accepted b c l.sheet).count
