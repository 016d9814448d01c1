-- Checks that no walk makes: joining alone, the type of a record and its count in a header, what the program judges an input as. Assumes nothing.
use mathlib.Core.Path.{◌≡◌, refl, ap, sym, ◌∙◌}
use mathlib.Core.Logic.{◌⊎◌, inl, inr}
use mathlib.Core.Bool.{Bool, true, false, cond, ◌&&◌, false≢true}
use mathlib.Core.List.{List, [], ◌∷◌, ◌++◌}
use Prim.Native.Nat.{ℕ, ◌≤◌}
use Prim.Native.String.{String}
use native.Mathlib.Omega.{arith}
use lib.IntN.{ℤ}
use lib.Dec.{leb}
use lib.ListN.{length, get_or}
use borrow.Author.Tests.{le-leb}
use Rattle.format.specs.Text.{bytes, begins}
use Rattle.format.specs.Basics.{Answer, given, refused, first, unless}
use Rattle.format.specs.Column.{fits}
use Rattle.format.specs.Shape.{TooLarge, RightWidth}
use Rattle.format.specs.Corner.{is_unit, fraction_ok, millimetres, join}
use Rattle.format.specs.Record.{RecordType, H, E1, E2, E3, E4, E5, E6, E7, E8, G, T, other, type_of, count_index, count_name, view_as, view, header_view, element_view, grid_view, net_view, other_view}
use Rattle.format.specs.Layout.{number_at, header}
use Rattle.format.specs.Judge.{Counts, judge_sheet, judge_index}
use Rattle.format.specs.Program.{line_of, judge_input, line, printed, unread}
use Rattle.format.specs.Checks.{Check, FirstOf, AnswersFirst, OneOf, Starts, join_checks, TypeMeans, count_of}
use Rattle.format.proofs.ColumnAlone.{Fitting, small, large, fitting}
use Rattle.format.proofs.ChecksOrder.{Says, Decides, says-and, decides_says, check_first, check_end, values-first, refusal_first}
use Rattle.format.proofs.ChecksRecords.{member_decides}
use Rattle.format.proofs.ChecksParts.{starts_decides, fraction-says, two_bytes_I}

-- ---- Joining
fits-says : (w : ℕ) (z : ℤ) → RightWidth w → Says (fits w z) (TooLarge w z)
fits-says w z r = go (fitting w z r)
  where
    go : Fitting w z → Says (fits w z) (TooLarge w z)
    go (small e n) = record { yes = λ q. absurd (false≢true (sym q ∙ e)); no = λ q. n }
    go (large e n) = record { yes = λ q. n; no = λ q. absurd (false≢true (sym e ∙ q)) }

two_tests : {A : Type 0} (checks : List Check) (a b : Bool) (value : A) → FirstOf checks (first (unless a 16) (unless b 9)) → AnswersFirst checks (cond a (cond b (given value) (refused 9 0)) (refused 16 0))
two_tests checks true true value f = values-first checks value f
two_tests checks true false value f = refusal_first checks 8 f
two_tests checks false b value f = refusal_first checks 15 f

sixteen_says : (unit : ℕ) (whole fraction : ℤ) → Says (is_unit unit && fits 7 whole && fits 4 fraction) (((OneOf unit (1 ∷ 10 ∷ 999 ∷ []) → ⊥) ⊎ TooLarge 7 whole) ⊎ TooLarge 4 fraction)
sixteen_says unit whole fraction = says-and (says-and (decides_says (member_decides unit (1 ∷ 10 ∷ 999 ∷ []))) (fits-says 7 whole (omega arith, omega arith))) (fits-says 4 fraction (omega arith, omega arith))

pub join_first : (unit : ℕ) (whole fraction : ℤ) → AnswersFirst (join_checks unit whole fraction) (join unit whole fraction)
unfolding join
join_first unit whole fraction = two_tests _ (is_unit unit && fits 7 whole && fits 4 fraction) (fraction_ok unit whole fraction) (millimetres unit whole fraction) (check_first 15 _ _ _ _ (sixteen_says unit whole fraction) (λ e. check_end 8 _ _ (fraction-says unit whole fraction)))

-- ---- The type of a record
choose : (M : RecordType → Type 0) (test : Bool) (t rest : RecordType) → (test ≡ true → M t) → (test ≡ false → M rest) → M (cond test t rest)
choose M true t rest a b = a refl
choose M false t rest a b = b refl

pub type_means : (r : List ℕ) → TypeMeans (type_of r) r
unfolding type_of bytes
type_means r =
    by "H " H _ refl (λ e. e) (λ n0. by "E1" E1 _ refl (λ e. e) (λ n1. by "E2" E2 _ refl (λ e. e) (λ n2. by "E3" E3 _ refl (λ e. e) (λ n3. by "E4" E4 _ refl (λ e. e) (λ n4. by "E5" E5 _ refl (λ e. e) (λ n5. by "E6" E6 _ refl (λ e. e) (λ n6. by "E7" E7 _ refl (λ e. e) (λ n7. by "E8" E8 _ refl (λ e. e) (λ n8. by "G " G _ refl (λ e. e) (λ n9. by "T " T other refl (λ e. e) (λ n10 some. none_of n0 n1 n2 n3 n4 n5 n6 n7 n8 n9 n10 some)))))))))))
  where
    by : (two : String) (t rest : RecordType) → length (bytes two) ≡ 2 → (Starts two r → TypeMeans t r) → ((Starts two r → ⊥) → TypeMeans rest r) → TypeMeans (cond (begins two r) t rest) r
    by two t rest is a b = choose (λ (x : RecordType). TypeMeans x r) (begins two r) t rest (λ e. a ((starts_decides two r is).yes e)) (λ e. b ((starts_decides two r is).no e))

    none_of : {A B C D E F K L M N O : Type 0} → (A → ⊥) → (B → ⊥) → (C → ⊥) → (D → ⊥) → (E → ⊥) → (F → ⊥) → (K → ⊥) → (L → ⊥) → (M → ⊥) → (N → ⊥) → (O → ⊥) → A ⊎ (B ⊎ (C ⊎ (D ⊎ (E ⊎ (F ⊎ (K ⊎ (L ⊎ (M ⊎ (N ⊎ (O ⊎ ⊥)))))))))) → ⊥
    none_of a b c d e f k l m n o (inl x) = a x
    none_of a b c d e f k l m n o (inr (inl x)) = b x
    none_of a b c d e f k l m n o (inr (inr (inl x))) = c x
    none_of a b c d e f k l m n o (inr (inr (inr (inl x)))) = d x
    none_of a b c d e f k l m n o (inr (inr (inr (inr (inl x))))) = e x
    none_of a b c d e f k l m n o (inr (inr (inr (inr (inr (inl x)))))) = f x
    none_of a b c d e f k l m n o (inr (inr (inr (inr (inr (inr (inl x))))))) = k x
    none_of a b c d e f k l m n o (inr (inr (inr (inr (inr (inr (inr (inl x)))))))) = l x
    none_of a b c d e f k l m n o (inr (inr (inr (inr (inr (inr (inr (inr (inl x))))))))) = m x
    none_of a b c d e f k l m n o (inr (inr (inr (inr (inr (inr (inr (inr (inr (inl x)))))))))) = n x
    none_of a b c d e f k l m n o (inr (inr (inr (inr (inr (inr (inr (inr (inr (inr (inl x))))))))))) = o x
    none_of a b c d e f k l m n o (inr (inr (inr (inr (inr (inr (inr (inr (inr (inr (inr x))))))))))) = x

-- ---- What the program judges
judged_as : (test : Bool) (input : List ℕ) → Decides test (Starts "I " input) → (Starts "I " input → line_of (cond test (judge_index (length input) input) (judge_sheet (length input) input)) ≡ line_of (judge_index (length input) input)) × ((Starts "I " input → ⊥) → line_of (cond test (judge_index (length input) input) (judge_sheet (length input) input)) ≡ line_of (judge_sheet (length input) input))
judged_as true input d = (λ s. refl, λ n. absurd (n (d.yes refl)))
judged_as false input d = (λ s. absurd (d.no refl s), λ n. refl)

pub input_index : (input : List ℕ) → length input ≤ 65520 → Starts "I " input → printed input ≡ line_of (judge_index (length input) input) ++ 10 ∷ []
unfolding printed line
input_index input l s = rw (le-leb (length input) 65520 l) (ap (λ (x : List ℕ). x ++ 10 ∷ []) ((judged_as (begins "I " input) input (starts_decides "I " input two_bytes_I)).0 s))

pub input_sheet : (input : List ℕ) → length input ≤ 65520 → (Starts "I " input → ⊥) → printed input ≡ line_of (judge_sheet (length input) input) ++ 10 ∷ []
unfolding printed line
input_sheet input l n = rw (le-leb (length input) 65520 l) (ap (λ (x : List ℕ). x ++ 10 ∷ []) ((judged_as (begins "I " input) input (starts_decides "I " input two_bytes_I)).1 n))

-- every line begins with another letter than the line of a failed read
unread_elsewhere : (letter : ℕ) (rest : List ℕ) → (letter ≡ 110 → ⊥) → unread ≡ letter ∷ rest → ⊥
unfolding unread bytes
unread_elsewhere letter rest n e = n (sym (ap (λ (l : List ℕ). get_or l 0 0) e))

answered_elsewhere : (a : Answer Counts) → unread ≡ line_of a ++ 10 ∷ [] → ⊥
unfolding bytes
answered_elsewhere (given c) e = unread_elsewhere 97 _ (λ q. absurd (omega (arith, q))) e
answered_elsewhere (refused n r) e = unread_elsewhere 114 _ (λ q. absurd (omega (arith, q))) e

pub unread-not-printed : (input : List ℕ) → unread ≡ printed input → ⊥
unfolding printed line bytes
unread-not-printed input e = go (leb (length input) 65520) e
  where
    go : (b : Bool) → unread ≡ cond b (line_of (judge_input input)) (bytes "too long") ++ 10 ∷ [] → ⊥
    go true e = answered_elsewhere (judge_input input) e
    go false e = unread_elsewhere 116 _ (λ q. absurd (omega (arith, q))) e

-- ---- The count of a header that a record belongs to
own-count : (t : RecordType) (h r : List ℕ) → type_of h ≡ H → (view h).count (count_index (view_as t r).kind) ≡ number_at header (count_of t) h
unfolding view header_view element_view grid_view net_view other_view count_name
own-count H h r e = rw e
own-count E1 h r e = rw e
own-count E2 h r e = rw e
own-count E3 h r e = rw e
own-count E4 h r e = rw e
own-count E5 h r e = rw e
own-count E6 h r e = rw e
own-count E7 h r e = rw e
own-count E8 h r e = rw e
own-count G h r e = rw e
own-count T h r e = rw e
own-count other h r e = rw e

pub count_means : (h r : List ℕ) → type_of h ≡ H → (view h).count (count_index (view r).kind) ≡ number_at header (count_of (type_of r)) h
unfolding view
count_means h r e = own-count (type_of r) h r e
