-- Stage three: record 2 first, then the first header whose counts differ. Assumes nothing.
use mathlib.Core.Path.{◌≡◌, refl, ap, ap₂, sym, ◌∙◌}
use mathlib.Core.Logic.{◌⊎◌, inl, inr, ◌↔◌, ◌≢◌}
use mathlib.Core.Bool.{Bool, true, false, not, ◌&&◌, ◌||◌, false≢true}
use mathlib.Core.List.{List, [], ◌∷◌, ◌++◌}
use Prim.Native.Nat.{ℕ, zero, suc, ◌+◌, ◌<◌}
use native.Mathlib.Omega.{arith}
use lib.Dec.{eqb, leb}
use lib.ListN.{length, length-append}
use borrow.Author.Tests.{eqb-true, eqb-false, ne_eqb, leb-true, leb-false}
use Rattle.format.specs.Basics.{Fault, none, fault, or_else, to_fault, unless}
use Rattle.format.specs.Record.{View, is_head, nothing}
use Rattle.format.specs.Judge.{File, due_after, headers_and_items, items, count_under, sum, all, count_agrees, counts_agree, count_fault, sheet_count_fault}
use Rattle.format.specs.Edit.{due_behind}
use Rattle.format.specs.Above.{count_with_above}
use Rattle.format.specs.Checks.{SheetCountsDiffer, CountsDiffer, HeaderBehind, Ten}
use Rattle.format.proofs.JudgeWalks.{Passes}
use Rattle.format.proofs.JudgeMeaning.{meaning}
use Rattle.format.proofs.Above.{data_records-head}
use Rattle.format.proofs.ChecksStages.{Third, passed, failed}
use Rattle.format.proofs.ChecksOrder.{Says, says_map, says-and, says_eqb}

-- ---- What the tests say
all-says : (n : ℕ) (f : ℕ → Bool) → Says (all n f) ((j : ℕ) × (j < n) × (f j ≡ false))
all-says zero f = record { yes = λ e. absurd (false≢true (sym e)); no = λ e x. omega (arith, x.1) }
all-says (suc n) f = go (f n) refl (all-says n f)
  where
    go : (t : Bool) → f n ≡ t → Says (all n f) ((j : ℕ) × (j < n) × (f j ≡ false)) → Says (t && all n f) ((j : ℕ) × (j < suc n) × (f j ≡ false))
    go false q ih = record { yes = λ e. (n, omega arith, q); no = λ e. absurd (false≢true e) }
    go true q ih = record { yes = λ e. let x = ih.yes e in (x.0, omega (arith, x.1), x.2); no = λ e x. below e x.0 x.1 x.2 (eqb x.0 n) refl }
      where
        below : all n f ≡ true → (j : ℕ) → j < suc n → f j ≡ false → (t : Bool) → eqb j n ≡ t → ⊥
        below e j l z true p = false≢true (sym z ∙ ap f (eqb-true j n p) ∙ q)
        below e j l z false p = ih.no e (j, (let ne : j ≢ n = eqb-false j n p in omega arith), z)

-- a header's counts differ from what stands behind it
abbrev Differs : View → List View → Type 0
Differs h behind = ((kind : ℕ) × (kind < 10) × (h.count kind ≢ count_under h.level kind behind)) ⊎ (h.total ≢ sum 10 h.count)

differs-says : (h : View) (behind : List View) → Says (counts_agree h behind) (Differs h behind)
differs-says h behind = says-and (says_map (λ x. (x.0, x.1, eqb-false _ _ x.2)) (λ x. (x.0, x.1, ne_eqb _ _ x.2)) (all-says 10 (count_agrees h behind))) (says_eqb h.total (sum 10 h.count))

-- ---- The first header whose counts differ, in a list of records where so many data records are due at first
-- a header in it, and what stands before and behind
pub record In (due : ℕ) (xs front : List View) : Type 0 where
  pub it : View
  pub behind : List View
  pub whole : xs ≡ front ++ it ∷ behind
  pub closed : due_behind due front ≡ 0
  pub header : is_head it.kind ≡ true

abbrev Wrong : {due : ℕ} {xs front : List View} → In due xs front → Type 0
Wrong h = Differs h.it (headers_and_items 0 h.behind)

-- one record more in front
in_front : (due : ℕ) (r : View) (xs front : List View) → In (due_after due r) xs front → In due (r ∷ xs) (r ∷ front)
in_front due r xs front h = record { it = h.it; behind = h.behind; whole = ap (λ (l : List View). r ∷ l) h.whole; closed = h.closed; header = h.header }

in_behind : (due : ℕ) (r : View) (xs : List View) (p : View) (front : List View) (h : In due (r ∷ xs) (p ∷ front)) → In (due_after due r) xs front
in_behind due r xs p front h = record { it = h.it; behind = h.behind; whole = tail; closed = rw head at h.closed; header = h.header }
  where
    head : p ≡ r
    head = cc h.whole

    tail : xs ≡ front ++ h.it ∷ h.behind
    tail = cc h.whole

pub record First (due : ℕ) (xs : List View) : Type 0 where
  pub front : List View
  pub here : In due xs front
  pub wrong : Wrong here
  pub earlier : (before : List View) → length before < length front → (h : In due xs before) → Wrong h → ⊥

abbrev NoneWrong : (due : ℕ) (xs : List View) → Type 0
NoneWrong due xs = (front : List View) (h : In due xs front) → Wrong h → ⊥

-- what the search comes to
pub data Search (due i : ℕ) (xs : List View) : Type 0 where
  clean : count_fault due i xs ≡ none → NoneWrong due xs → Search due i xs
  dirty : (f : First due xs) → count_fault due i xs ≡ fault 10 (i + length f.front) → Search due i xs

-- a record that is passed
pass : (due i : ℕ) (r : View) (xs : List View) → count_fault due i (r ∷ xs) ≡ count_fault (due_after due r) (suc i) xs → ((h : In due (r ∷ xs) []) → Wrong h → ⊥) → Search (due_after due r) (suc i) xs → Search due i (r ∷ xs)
unfolding in_behind in_front
pass due i r xs e not-here (clean q n) = clean (e ∙ q) all
  where
    all : NoneWrong due (r ∷ xs)
    all [] h w = not-here h w
    all (p ∷ front) h w = n front (in_behind due r xs p front h) w
pass due i r xs e not-here (dirty f q) = dirty (record { front = r ∷ f.front; here = in_front due r xs f.front f.here; wrong = f.wrong; earlier = earlier }) (e ∙ q ∙ ap (fault 10) (omega arith))
  where
    earlier : (before : List View) → length before < suc (length f.front) → (h : In due (r ∷ xs) before) → Wrong h → ⊥
    earlier [] l h w = not-here h w
    earlier (p ∷ before) l h w = f.earlier before (omega arith) (in_behind due r xs p before h) w

none_in_none : (due : ℕ) → NoneWrong due []
none_in_none due front h w = omega (arith, ap length h.whole ∙ length-append front (h.it ∷ h.behind))

pub search_counts : (due i : ℕ) (xs : List View) → Search due i xs
search_counts due i [] = clean refl (none_in_none due)
search_counts zero i (r ∷ xs) = go (is_head r.kind) refl (counts_agree r (headers_and_items (due_after 0 r) xs)) refl (search_counts (due_after 0 r) (suc i) xs)
  where
    step : (t : Bool) → is_head r.kind ≡ t → (u : Bool) → counts_agree r (headers_and_items (due_after 0 r) xs) ≡ u → count_fault 0 i (r ∷ xs) ≡ or_else (to_fault (unless (not t || u) 10) i) (count_fault (due_after 0 r) (suc i) xs)
    step t p u q = ap₂ (λ (t u : Bool). or_else (to_fault (unless (not t || u) 10) i) (count_fault (due_after 0 r) (suc i) xs)) p q

    go : (t : Bool) → is_head r.kind ≡ t → (u : Bool) → counts_agree r (headers_and_items (due_after 0 r) xs) ≡ u → Search (due_after 0 r) (suc i) xs → Search 0 i (r ∷ xs)
    go false p u q ih = pass 0 i r xs (step false p u q) (λ h w. let same : h.it ≡ r = cc h.whole in false≢true (sym p ∙ sym (ap (λ (x : View). is_head x.kind) same) ∙ h.header)) ih
    go true p true q ih = pass 0 i r xs (step true p true q) (λ h w. let it : h.it ≡ r = cc h.whole in let rest : h.behind ≡ xs = cc h.whole in (differs-says r (headers_and_items (due_after 0 r) xs)).no q (rw (data_records-head r p) (rw (it, rest) at w))) ih
    go true p false q ih = dirty (record { front = []; here = record { it = r; behind = xs; whole = refl; closed = refl; header = p }; wrong = rw (data_records-head r p) at ((differs-says r (headers_and_items (due_after 0 r) xs)).yes q); earlier = λ before l h w. omega arith }) (step true p false q ∙ ap (fault 10) (omega arith))
search_counts (suc due) i (r ∷ xs) = pass (suc due) i r xs refl (λ h w. omega (arith, h.closed)) (search_counts due (suc i) xs)

-- what stage three comes to
abbrev pub stage_three : File → Fault
stage_three f = or_else (to_fault (sheet_count_fault f) 2) (count_fault 0 (suc f.part_length) f.body)

-- there is one lowest record
pub one_ten : (f : File) (a b : ℕ) → Ten f a → Ten f b → a ≡ b
one_ten f a b (inl x) (inl y) = x.1 ∙ sym y.1
one_ten f a b (inl x) (inr y) = absurd (y.0 x.0)
one_ten f a b (inr x) (inl y) = absurd (x.0 y.0)
one_ten f a b (inr x) (inr y) = order (leb (length x.1.front) (length y.1.front)) refl (leb (length y.1.front) (length x.1.front)) refl
  where
    order : (t : Bool) → leb (length x.1.front) (length y.1.front) ≡ t → (u : Bool) → leb (length y.1.front) (length x.1.front) ≡ u → a ≡ b
    order true p true q = omega (arith, leb-true (length x.1.front) (length y.1.front) p, leb-true (length y.1.front) (length x.1.front) q, x.1.is, y.1.is)
    order t p false q = absurd (y.1.earlier x.1.front (leb-false _ _ q) x.1.here x.1.differs)
    order false p true q = absurd (x.1.earlier y.1.front (leb-false _ _ p) y.1.here y.1.differs)

-- ---- In document 01's words, of a body that passes stage two
module _ (f : File) (p : Passes 0 0 nothing f.body) where
  in_file : (front : List View) → HeaderBehind f front → In 0 f.body front
  in_file front h = record { it = h.it; behind = h.behind; whole = h.whole; closed = h.due; header = h.header }

  out_of : (front : List View) → In 0 f.body front → HeaderBehind f front
  out_of front h = record { it = h.it; behind = h.behind; whole = h.whole; due = h.closed; header = h.header }

  differs-wrong : (front : List View) (h : HeaderBehind f front) → CountsDiffer f (suc (length front)) h.it ↔ Differs h.it (headers_and_items 0 h.behind)
  differs-wrong front h = (elim [ inl x ↦ inl (x.0, x.1, rw (mean x.0) at x.2) | inr x ↦ inr x ], elim [ inl x ↦ inl (x.0, x.1, rw (mean x.0) x.2) | inr x ↦ inr x ])
    where
      mean : (kind : ℕ) → count_with_above (suc (length front)) kind [] 0 f.body ≡ count_under h.it.level kind (headers_and_items 0 h.behind)
      mean kind = meaning f.body front h.it h.behind kind p h.whole h.due h.header

  sheet-says : Says (eqb f.stated_elements (items (headers_and_items 0 f.body)) && eqb f.stated_records (length f.body)) (SheetCountsDiffer f)
  sheet-says = says-and (says_eqb _ _) (says_eqb _ _)

  pub third : Third (Ten f) (stage_three f)
  unfolding in_file out_of
  third = go _ refl sheet-says
    where
      test : Bool
      test = eqb f.stated_elements (items (headers_and_items 0 f.body)) && eqb f.stated_records (length f.body)

      step : (t : Bool) → test ≡ t → stage_three f ≡ or_else (to_fault (unless t 10) 2) (count_fault 0 (suc f.part_length) f.body)
      step t q = ap (λ (t : Bool). or_else (to_fault (unless t 10) 2) (count_fault 0 (suc f.part_length) f.body)) q

      headers : test ≡ true → (SheetCountsDiffer f → ⊥) → Search 0 (suc f.part_length) f.body → Third (Ten f) (stage_three f)
      headers q right (clean e n) = passed (step true q ∙ e) (λ at. elim [ inl x ↦ right x.0 | inr x ↦ n x.1.front (in_file x.1.front x.1.here) ((differs-wrong x.1.front x.1.here).0 x.1.differs) ])
      headers q right (dirty d e) = failed (suc f.part_length + length d.front) (step true q ∙ e) (inr (right, record { front = d.front; here = out_of d.front d.here; is = omega arith; differs = (differs-wrong d.front (out_of d.front d.here)).1 d.wrong; earlier = λ before l h x. d.earlier before l (in_file before h) ((differs-wrong before h).0 x) }))

      go : (t : Bool) → test ≡ t → Says t (SheetCountsDiffer f) → Third (Ten f) (stage_three f)
      go false q s = failed 2 (step false q) (inl (s.yes refl, refl))
      go true q s = headers q (s.no refl) (search_counts 0 (suc f.part_length) f.body)
