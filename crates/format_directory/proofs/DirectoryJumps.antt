-- Jumping is counting from the front, in either edition; what plain judging says of a file with its directory; the answer of a jump. Assumes nothing.
use mathlib.Core.Path.{◌≡◌, refl, ap, ap₂, sym, subst, ◌∙◌}
use mathlib.Core.Logic.{◌⊎◌, inl, inr, ◌↔◌}
use mathlib.Core.Bool.{Bool, true, false, cond, ◌||◌, ◌&&◌, false≢true}
use mathlib.Core.List.{List, [], ◌∷◌}
use Prim.Native.Nat.{ℕ, zero, suc, pred, ◌*◌, ◌≤◌, ◌<◌}
use native.Mathlib.Omega.{arith}
use lib.Dec.{eqb, leb}
use lib.ListN.{length, take, get_or}
use lib.Seq.{length-take-le}
use borrow.Author.Tests.{eqb-true, leb-true, le-leb}
use Rattle.format.specs.Basics.{Answer, given, refused, member, chunks}
use Rattle.format.specs.Judge.{Counts, file_of, judge_records, judge_sheet}
use Rattle.format.proofs.Basics.{and-true, true_and, or_cases}
use Rattle.format_directory.specs.declared.Edition.{Edition}
use Rattle.format_directory.specs.declared.Edition.TheVariants.{One, Two}
use Rattle.std.specs.Prelude.{Result, Ok, Err}
use Rattle.format.specs.declared.Refusal.{Refusal}
use Rattle.format.proofs.ClaimsAnswers.{value_of, refusal_one_to_one}
use Rattle.format_directory.specs.declared.LayerEntry as Declared
use Rattle.format_directory.specs.Answers.{jumped_answer, jumped_either_answer}
use Rattle.format_directory.specs.Directory.{Layer, layers_of, total_of, last_of, last_record, layer_count, in_count, after_judging, listed_in, sheet_in, directory_in, judge_directory, jump, no_layer, layer_of, counted_header, edition_of, judge_either_edition, LayerEntry, entry_in, jump_either_edition}
use Rattle.format_directory.specs.DirectoryChecks.{Rising, Spans, AllSpan, ListsLayers, NthHeader, NthLayer, header_of}
use Rattle.format_directory.proofs.RisingLists.{member-first, member-rest, later, rising_above, rising-same}
use Rattle.format_directory.proofs.DirectoryLayers.{headers, headers_rise, only_headers, every-header, entry_of, entries, entry_path, all_span, same-entry}
use Rattle.format_directory.proofs.DirectoryJudged.{RightDirectory, accepted_exactly, right-count, read_counted, in_counts}
use Rattle.format_directory.proofs.DirectoryJudged as DirectoryJudged
use Rattle.format_directory.proofs.DirectoryRefused as DirectoryRefused
use Rattle.format_directory.proofs.DirectoryWords.{length_headers, sheet-accepted, right-records, lists-right}
use Rattle.format_directory.proofs.DirectoryEditions.{edition_of_right, either_right, right_either, old_accepted}

-- ---- number i of a rising list, and those before it
member_get : (L : List ℕ) (i : ℕ) → i < length L → member (get_or L i 0) L ≡ true
member_get [] i h = absurd (omega arith)
member_get (x ∷ L) zero h = member-first x L
member_get (x ∷ L) (suc i) h = member-rest (get_or L i 0) x L (member_get L i (omega arith))

record Placed (L : List ℕ) (m : ℕ) : Type 0 where
  i : ℕ
  inside : i < length L
  is : get_or L i 0 ≡ m

member_placed : (L : List ℕ) (m : ℕ) → member m L ≡ true → Placed L m
member_placed [] m e = absurd (false≢true e)
member_placed (x ∷ L) m e = go (or_cases (eqb m x) (member m L) e) (member_placed L m)
  where
    go : (eqb m x ≡ true) ⊎ (member m L ≡ true) → (member m L ≡ true → Placed L m) → Placed (x ∷ L) m
    go (inl q) ih = record { i = 0; inside = omega arith; is = sym (eqb-true m x q) }
    go (inr q) ih = let p : Placed L m = ih q in record { i = suc p.i; inside = omega (arith, p.inside); is = p.is }

rising-take : (a : ℕ) (L : List ℕ) (i : ℕ) → Rising a L → Rising a (take i L)
rising-take a L zero h = tt
rising-take a [] (suc i) h = tt
rising-take a (x ∷ L) (suc i) h = (h.0, rising-take (suc x) L i h.1)

take_members : (a : ℕ) (L : List ℕ) (i m : ℕ) → Rising a L → i < length L → member m (take i L) ≡ true → (member m L ≡ true) × (m < get_or L i 0)
take_members a [] i m h l e = absurd (omega arith)
take_members a (x ∷ L) zero m h l e = absurd (false≢true e)
take_members a (x ∷ L) (suc i) m h l e = go (or_cases (eqb m x) (member m (take i L)) e) (take_members (suc x) L i m h.1 (omega arith))
  where
    go : (eqb m x ≡ true) ⊎ (member m (take i L) ≡ true) → (member m (take i L) ≡ true → (member m L ≡ true) × (m < get_or L i 0)) → (member m (x ∷ L) ≡ true) × (m < get_or L i 0)
    go (inl q) ih = (ap (λ (t : Bool). t || member m L) q, omega (arith, eqb-true m x q, rising_above (suc x) L h.1 (get_or L i 0) (member_get L i (omega arith))))
    go (inr q) ih = (member-rest m x L (ih q).0, (ih q).1)

members_take : (a : ℕ) (L : List ℕ) (i m : ℕ) → Rising a L → i < length L → member m L ≡ true → m < get_or L i 0 → member m (take i L) ≡ true
members_take a [] i m h l e k = absurd (omega arith)
members_take a (x ∷ L) zero m h l e k = absurd (omega (arith, rising_above x (x ∷ L) (omega arith, h.1) m e))
members_take a (x ∷ L) (suc i) m h l e k = go (or_cases (eqb m x) (member m L) e) (members_take (suc x) L i m h.1 (omega arith))
  where
    go : (eqb m x ≡ true) ⊎ (member m L ≡ true) → (member m L ≡ true → m < get_or L i 0 → member m (take i L) ≡ true) → member m (x ∷ take i L) ≡ true
    go (inl q) ih = ap (λ (t : Bool). t || member m (take i L)) q
    go (inr q) ih = member-rest m x (take i L) (ih q k)

-- the header of layer n, as it is counted
header_get : (ls : List Layer) (i : ℕ) → (get_or ls i no_layer).header ≡ get_or (headers ls) i 0
header_get [] i = refl
header_get (l ∷ ls) zero = refl
header_get (l ∷ ls) (suc i) = header_get ls i

-- ---- layer n of a sheet
module _ (R : List (List ℕ)) where
  abbrev L : List ℕ
  L = headers (layers_of R)

  abbrev least : ℕ
  least = suc (file_of R).part_length

  nth : (n : ℕ) → 1 ≤ n → n ≤ length (headers (layers_of R)) → NthHeader R n (get_or (headers (layers_of R)) (pred n) 0)
  nth n low high = record {
    header = only_headers R (get_or L (pred n) 0) (member_get L (pred n) (omega arith));
    before = take (pred n) L;
    each = λ m. (λ e. let p = take_members least L (pred n) m (headers_rise R) (omega arith) e in (only_headers R m p.0, p.1), λ h. members_take least L (pred n) m (headers_rise R) (omega arith) (every-header R m h.0) h.1);
    rising = later least 0 (take (pred n) L) (omega arith) (rising-take least L (pred n) (headers_rise R));
    counted = omega (arith, length-take-le (pred n) L (let q : pred n ≤ length L = omega arith in q));
  }

  place_of : (n number : ℕ) → NthHeader R n number → (1 ≤ n) × (n ≤ length (headers (layers_of R))) × (number ≡ get_or (headers (layers_of R)) (pred n) 0)
  place_of n number h = (omega (arith, h.counted), omega (arith, h.counted, place, p.inside), sym p.is ∙ ap (λ (i : ℕ). get_or L i 0) (let q : p.i ≡ pred n = omega (arith, h.counted, place) in q))
    where
      p : Placed L number
      p = member_placed L number (every-header R number h.header)

      same : h.before ≡ take p.i L
      same = rising-same 0 least h.before (take p.i L) h.rising (rising-take least L p.i (headers_rise R)) forth back
        where
          forth : (m : ℕ) → member m h.before ≡ true → member m (take p.i L) ≡ true
          forth m e = let q = (h.each m).0 e in members_take least L p.i m (headers_rise R) p.inside (every-header R m q.0) (subst (λ (x : ℕ). m < x) (sym p.is) q.1)

          back : (m : ℕ) → member m (take p.i L) ≡ true → member m h.before ≡ true
          back m e = let q = take_members least L p.i m (headers_rise R) p.inside e in (h.each m).1 (only_headers R m q.0, subst (λ (x : ℕ). m < x) p.is q.1)

      place : length h.before ≡ p.i
      place = ap length same ∙ length-take-le p.i L (let q : p.i ≤ length L = omega (arith, p.inside) in q)

  nth_header : (n : ℕ) → 1 ≤ n → n ≤ length (layers_of R) → NthHeader R n (layer_of R n).header
  nth_header n low high = subst (NthHeader R n) (sym (header_get (layers_of R) (pred n))) (nth n low (omega (arith, length_headers (layers_of R))))

  header_nth : (n number : ℕ) → NthHeader R n number → (1 ≤ n) × (n ≤ length (layers_of R)) × (number ≡ (layer_of R n).header)
  header_nth n number h = let p = place_of n number h in (p.0, omega (arith, p.1, length_headers (layers_of R)), p.2 ∙ sym (header_get (layers_of R) (pred n)))

-- the sheet of an accepted file is as many records as are counted
sheet-records : (e : Edition) (used : ℕ) (b : List ℕ) (c : Counts) → RightDirectory e used b c → sheet_in used b ≡ chunks c.records b
unfolding sheet_in
sheet-records e used b c r = ap (λ (p : ℕ). chunks (pred p) b) (right-records e used b c r)

-- ---- an answer that is something within the count, or 17
module _ {A : Type 0} (R : List (List ℕ)) (n : ℕ) (found : A) (answer : Answer A) (is : answer ≡ in_count (length (layers_of R)) n found) where
  data Where : Type 0 where
    inside : 1 ≤ n → n ≤ length (layers_of R) → answer ≡ given found → Where
    outside : ((1 ≤ n) × (n ≤ length (layers_of R)) → ⊥) → answer ≡ refused 17 0 → Where

  where_is : Where
  where_is = go (leb 1 n && leb n (length (layers_of R))) refl
    where
      go : (t : Bool) → leb 1 n && leb n (length (layers_of R)) ≡ t → Where
      go true e = let p = and-true (leb 1 n) (leb n (length (layers_of R))) e in inside (leb-true 1 n p.0) (leb-true n (length (layers_of R)) p.1) (is ∙ ap (λ (t : Bool). cond t (given found) (refused 17 0)) e)
      go false e = outside (λ p. false≢true (sym e ∙ true_and (leb 1 n) (leb n (length (layers_of R))) (le-leb 1 n p.0) (le-leb n (length (layers_of R)) p.1))) (is ∙ ap (λ (t : Bool). cond t (given found) (refused 17 0)) e)

  unlike : (x : A) (number at : ℕ) → ◌≡◌ {A = Answer A} (given x) (refused number at) → ⊥
  unlike x number at e = let z : ◌≡◌ {A = ℕ} 0 1 = cc in omega arith

  -- what is found has a property that nothing else has
  found_exactly : (P : A → Type 0) → (1 ≤ n → n ≤ length (layers_of R) → P found) → ((x : A) → P x → (1 ≤ n) × (n ≤ length (layers_of R)) × (x ≡ found)) → (x : A) → answer ≡ given x ↔ P x
  found_exactly P has only x = (forth where_is, λ p. back (only x p) where_is)
    where
      forth : Where → answer ≡ given x → P x
      forth (inside low high q) e = let s : ◌≡◌ {A = Answer A} (given found) (given x) = sym q ∙ e in let t : found ≡ x = cc in subst P t (has low high)
      forth (outside o q) e = absurd (unlike x 17 0 (sym e ∙ q))

      back : (1 ≤ n) × (n ≤ length (layers_of R)) × (x ≡ found) → Where → answer ≡ given x
      back p (inside low high q) = q ∙ ap given (sym p.2)
      back p (outside o q) = absurd (o (p.0, p.1))

  -- 17 exactly where there is no layer n
  none_exactly : answer ≡ refused 17 0 ↔ ((number : ℕ) → NthHeader R n number → ⊥)
  none_exactly = (λ e number h. forth where_is (header_nth R n number h) e, back where_is)
    where
      forth : {number : ℕ} → Where → (1 ≤ n) × (n ≤ length (layers_of R)) × (number ≡ (layer_of R n).header) → answer ≡ refused 17 0 → ⊥
      forth (inside low high q) p e = unlike found 17 0 (sym q ∙ e)
      forth (outside o q) p e = o (p.0, p.1)

      back : Where → ((number : ℕ) → NthHeader R n number → ⊥) → answer ≡ refused 17 0
      back (inside low high q) f = absurd (f (layer_of R n).header (nth_header R n low high))
      back (outside o q) f = q

-- ---- the old jump
module _ (used : ℕ) (b : List ℕ) (c : Counts) (n : ℕ) (accepted : judge_directory used b ≡ given c) where
  jumped : jump used b n ≡ counted_header (chunks c.records b) n
  jumped = DirectoryJudged.jump-counts used b c n accepted ∙ ap (λ (x : List (List ℕ)). counted_header x n) (sheet-records One used b c ((accepted_exactly used b c).0 accepted))

  within : jump used b n ≡ in_count (length (layers_of (chunks c.records b))) n (layer_of (chunks c.records b) n).header
  unfolding counted_header
  within = jumped

pub jump-counts : (used : ℕ) (b : List ℕ) (c : Counts) (n number : ℕ) → judge_directory used b ≡ given c → jump used b n ≡ given number ↔ NthHeader (chunks c.records b) n number
jump-counts used b c n number e = found_exactly (chunks c.records b) n _ (jump used b n) (within used b c n e) (NthHeader (chunks c.records b) n) (nth_header (chunks c.records b) n) (header_nth (chunks c.records b) n) number

pub jump-outside : (used : ℕ) (b : List ℕ) (c : Counts) (n : ℕ) → judge_directory used b ≡ given c → jump used b n ≡ refused 17 0 ↔ ((number : ℕ) → NthHeader (chunks c.records b) n number → ⊥)
jump-outside used b c n e = none_exactly (chunks c.records b) n _ (jump used b n) (within used b c n e)

pub jump-refuses : (used : ℕ) (b : List ℕ) (number at n : ℕ) → judge_directory used b ≡ refused number at → jump used b n ≡ refused number at
unfolding jump
jump-refuses used b number at n e = ap (λ (v : Answer Counts). after_judging v (in_count (layer_count (last_record used b)) n (listed_in One (directory_in used b) n 0))) e

-- ---- the new jump: "the same headers, with total and last beside them, both 0 for edition 1"
abbrev counted_in : Edition → Layer → LayerEntry
counted_in One l = record { header = l.header; total = 0; last = 0 }
counted_in Two l = entry_of l

entry_counted : (e : Edition) (used : ℕ) (b : List ℕ) (c : Counts) (n : ℕ) → RightDirectory e used b c → 1 ≤ n → n ≤ length (layers_of (sheet_in used b)) → entry_in e (directory_in used b) n ≡ counted_in e (layer_of (sheet_in used b) n)
entry_counted One used b c n r l u = entry_path _ _ (read_counted One used b c r n 0 l u (omega arith)) refl refl
entry_counted Two used b c n r l u = entry_path _ _ (read_counted Two used b c r n 0 l u (omega arith)) (read_counted Two used b c r n 1 l u (omega arith)) (read_counted Two used b c r n 2 l u (omega arith))

either_within : (e : Edition) (used : ℕ) (b : List ℕ) (c : Counts) (n : ℕ) → RightDirectory e used b c → jump_either_edition used b n ≡ in_count (length (layers_of (chunks c.records b))) n (counted_in e (layer_of (chunks c.records b) n))
unfolding jump_either_edition
either_within e used b c n r =
    ap₂ (λ (v : Answer Counts) (x : Edition). after_judging v (in_count (layer_count (last_record used b)) n (entry_in x (directory_in used b) n))) (right_either e used b c r) (edition_of_right e used b c r).0
    ∙ ap (λ (k : ℕ). in_count k n (entry_in e (directory_in used b) n)) (right-count e used b c r)
    ∙ in_counts (length (layers_of (sheet_in used b))) n _ _ (λ l u. entry_counted e used b c n r l u)
    ∙ ap (λ (R : List (List ℕ)). in_count (length (layers_of R)) n (counted_in e (layer_of R n))) (sheet-records e used b c r)

-- layer n of an accepted sheet
module _ (R : List (List ℕ)) (c : Counts) (judged : judge_records R ≡ given c) (n : ℕ) where
  spans-at : (ls : List Layer) (i : ℕ) → i < length ls → AllSpan R (entries ls) → Spans R (get_or ls i no_layer).header (total_of (get_or ls i no_layer)) (last_of (get_or ls i no_layer))
  spans-at [] i h s = absurd (omega arith)
  spans-at (l ∷ ls) zero h s = s.0
  spans-at (l ∷ ls) (suc i) h s = spans-at ls i (omega arith) s.1

  nth_layer : (e : Edition) → 1 ≤ n → n ≤ length (layers_of R) → NthLayer e R n (counted_in e (layer_of R n))
  nth_layer One low high = (nth_header R n low high, refl, refl)
  nth_layer Two low high = (nth_header R n low high, spans-at (layers_of R) (pred n) (omega arith) (all_span R c judged))

  layer_nth : (e : Edition) (x : LayerEntry) → NthLayer e R n x → (1 ≤ n) × (n ≤ length (layers_of R)) × (x ≡ counted_in e (layer_of R n))
  layer_nth One x p = let h = header_nth R n x.header p.0 in (h.0, h.1, entry_path x (counted_in One (layer_of R n)) h.2 p.1 p.2)
  layer_nth Two x p = let h = header_nth R n x.header p.0 in (h.0, h.1, same-entry R c judged x (entry_of (layer_of R n)) h.2 p.1 (spans-at (layers_of R) (pred n) (omega (arith, h.0, h.1)) (all_span R c judged)))

pub jump_either_counts : (e : Edition) (used : ℕ) (b : List ℕ) (c : Counts) (n : ℕ) (layer : LayerEntry) → ListsLayers e used b c → jump_either_edition used b n ≡ given layer ↔ NthLayer e (chunks c.records b) n layer
jump_either_counts e used b c n layer l = found_exactly (chunks c.records b) n (counted_in e (layer_of (chunks c.records b) n)) (jump_either_edition used b n) (either_within e used b c n (lists-right e used b c l)) (NthLayer e (chunks c.records b) n) (nth_layer (chunks c.records b) c (sheet-accepted b c l.sheet).judged n e) (layer_nth (chunks c.records b) c (sheet-accepted b c l.sheet).judged n e) layer

pub jump_either_outside : (used : ℕ) (b : List ℕ) (c : Counts) (n : ℕ) → judge_either_edition used b ≡ given c → jump_either_edition used b n ≡ refused 17 0 ↔ ((number : ℕ) → NthHeader (chunks c.records b) n number → ⊥)
jump_either_outside used b c n h = none_exactly (chunks c.records b) n (counted_in (edition_of (last_record used b)) (layer_of (chunks c.records b) n)) (jump_either_edition used b n) (either_within (edition_of (last_record used b)) used b c n (either_right used b c h))

pub jump_either_refuses : (used : ℕ) (b : List ℕ) (number at n : ℕ) → judge_either_edition used b ≡ refused number at → jump_either_edition used b n ≡ refused number at
unfolding jump_either_edition
jump_either_refuses used b number at n e = ap (λ (v : Answer Counts). after_judging v (in_count (layer_count (last_record used b)) n (entry_in (edition_of (last_record used b)) (directory_in used b) n))) e

-- ---- "find the same headers"
header-within : (e : Edition) (k n : ℕ) (l : Layer) → header_of (in_count k n (counted_in e l)) ≡ in_count k n l.header
header-within e k n l = go e (leb 1 n && leb n k)
  where
    go : (e : Edition) (t : Bool) → header_of (cond t (given (counted_in e l)) (refused 17 0)) ≡ cond t (given l.header) (refused 17 0)
    go One true = refl
    go Two true = refl
    go One false = refl
    go Two false = refl

header_jumped : (used : ℕ) (b : List ℕ) (c : Counts) (n : ℕ) → judge_either_edition used b ≡ given c → header_of (jump_either_edition used b n) ≡ counted_header (chunks c.records b) n
unfolding counted_header
header_jumped used b c n h = ap header_of (either_within (edition_of (last_record used b)) used b c n (either_right used b c h)) ∙ header-within (edition_of (last_record used b)) (length (layers_of (chunks c.records b))) n (layer_of (chunks c.records b) n)

pub same_headers : (used other : ℕ) (b b' : List ℕ) (c c' : Counts) (n : ℕ) → judge_either_edition used b ≡ given c → judge_either_edition other b' ≡ given c' → chunks c.records b ≡ chunks c'.records b' → header_of (jump_either_edition used b n) ≡ header_of (jump_either_edition other b' n)
same_headers used other b b' c c' n h h' s = header_jumped used b c n h ∙ ap (λ (R : List (List ℕ)). counted_header R n) s ∙ sym (header_jumped other b' c' n h')

pub same_as_old : (used : ℕ) (b : List ℕ) (c : Counts) (n : ℕ) → judge_directory used b ≡ given c → header_of (jump_either_edition used b n) ≡ jump used b n
same_as_old used b c n h = header_jumped used b c n (old_accepted used b c h) ∙ sym (jumped used b c n h)

-- ---- what plain judging says
plain-four : (e : Edition) (used : ℕ) (b : List ℕ) (c : Counts) → RightDirectory e used b c → used ≤ 84 * 200000 → judge_sheet used b ≡ refused 4 (suc c.records)
plain-four e used b c r h = DirectoryRefused.plain-refuses e used b c r h ∙ ap (refused 4) (right-records e used b c r)

pub plain-refuses : (used : ℕ) (b : List ℕ) (c : Counts) → judge_directory used b ≡ given c → used ≤ 84 * 200000 → judge_sheet used b ≡ refused 4 (suc c.records)
plain-refuses used b c e h = plain-four One used b c ((accepted_exactly used b c).0 e) h

pub plain_refuses_long : (used : ℕ) (b : List ℕ) (c : Counts) → judge_directory used b ≡ given c → 84 * 200000 < used → judge_sheet used b ≡ refused 1 0
plain_refuses_long used b c e h = DirectoryRefused.plain_refuses_long used b h

pub plain_refuses_either : (used : ℕ) (b : List ℕ) (c : Counts) → judge_either_edition used b ≡ given c → used ≤ 84 * 200000 → judge_sheet used b ≡ refused 4 (suc c.records)
plain_refuses_either used b c e h = plain-four (edition_of (last_record used b)) used b c (either_right used b c e) h

pub plain_refuses_either_long : (used : ℕ) (b : List ℕ) (c : Counts) → judge_either_edition used b ≡ given c → 84 * 200000 < used → judge_sheet used b ≡ refused 1 0
plain_refuses_either_long used b c e h = DirectoryRefused.plain_refuses_long used b h

-- ---- the answers of the code
pub one_to_one : (x y : Result ℕ Refusal) → jumped_answer x ≡ jumped_answer y → x ≡ y
unfolding jumped_answer
one_to_one (Ok h) (Ok k) e = cc
one_to_one (Ok h) (Err r) e = cc
one_to_one (Err r) (Ok k) e = cc
one_to_one (Err r) (Err s) e = ap Err (refusal_one_to_one r s e)

pub either_one_to_one : (x y : Result Declared.LayerEntry Refusal) → jumped_either_answer x ≡ jumped_either_answer y → x ≡ y
unfolding jumped_either_answer
either_one_to_one (Ok d) (Ok e) h = ap Ok (ap (λ (a : Answer LayerEntry). (let v = value_of (record { header = d.header; total = d.total; last = d.last }) a in record { header = v.header; total = v.total; last = v.last })) h)
either_one_to_one (Ok d) (Err r) e = cc
either_one_to_one (Err r) (Ok d) e = cc
either_one_to_one (Err r) (Err s) e = ap Err (refusal_one_to_one r s e)
