-- What an append answers and leaves, of every edition. Assumes nothing.
use mathlib.Core.Path.{◌≡◌, refl, ap, ap₂, sym, ◌∙◌}
use mathlib.Core.Logic.{◌↔◌}
use mathlib.Core.Bool.{Bool, true, false, cond}
use mathlib.Core.List.{List, ◌++◌, append_assoc}
use Prim.Native.Nat.{ℕ, suc, ◌+◌, ◌*◌, ◌/◌, ◌≤◌, ◌<◌}
use native.Mathlib.Omega.{arith}
use lib.Dec.{leb}
use lib.ListN.{length, length-append, length-drop, take, drop}
use lib.Seq.{take_at, drop_at, length-take-le}
use borrow.Author.Tests.{leb-true, leb-false}
use Rattle.format.specs.Basics.{Answer, given, refused, Outcome, chunks, flat, round_up}
use Rattle.format.specs.Judge.{Counts, judge_sheet}
use Rattle.format.proofs.AcceptedSheet.{inside}
use Rattle.format.proofs.Lists.{length-flat}
use Rattle.format_directory.specs.declared.Edition.{Edition}
use Rattle.format_directory.specs.Directory.{layers_of, directory_of, append_to, append_directory}
use Rattle.format_directory.specs.DirectoryChecks.{most, AppendRefusal, own_refusal, no_room, Appended}
use Rattle.format_directory.proofs.DirectoryRecords.{wide_directory, length_directory}
use Rattle.format_directory.proofs.DirectoryJudged.{accepted-right, our_used, our_edition}
use Rattle.format_directory.proofs.DirectoryWords.{most_is, right-lists}

module _ (edition : Edition) (used : ℕ) (b : List ℕ) where
  abbrev D : List (List ℕ)
  D = directory_of edition (suc (used / 84)) (layers_of (chunks (used / 84) b))

  abbrev new : ℕ
  new = used + 84 * length (directory_of edition (suc (used / 84)) (layers_of (chunks (used / 84) b)))

  -- an append comes to one of three ends
  data Ends (o : Outcome ℕ) : Type 0 where
    own : (number at : ℕ) → judge_sheet used b ≡ refused number at → o ≡ record { answer = refused number at; bytes = b } → Ends o
    short : (c : Counts) → judge_sheet used b ≡ given c → length b < new → o ≡ record { answer = refused 15 0; bytes = b } → Ends o
    done : (c : Counts) → judge_sheet used b ≡ given c → new ≤ length b → o ≡ record { answer = given new; bytes = take used b ++ (flat D ++ drop new b) } → Ends o

  ends : Ends (append_directory edition used b)
  unfolding append_directory
  ends = go (judge_sheet used b) refl
    where
      go : (v : Answer Counts) → judge_sheet used b ≡ v → Ends (append_to (judge_sheet used b) used D b)
      go (refused number at) e = own number at e (ap (λ (v : Answer Counts). append_to v used D b) e)
      go (given c) e = fit (leb new (length b)) refl
        where
          whole : (t : Bool) → leb new (length b) ≡ t → append_to (judge_sheet used b) used D b ≡ cond t (record { answer = given new; bytes = take used b ++ (flat D ++ drop new b) }) (record { answer = refused 15 0; bytes = b })
          whole t q = ap (λ (v : Answer Counts). append_to v used D b) e ∙ ap (λ (x : Bool). cond x (record { answer = given new; bytes = take used b ++ (flat D ++ drop new b) }) (record { answer = refused 15 0; bytes = b })) q

          fit : (t : Bool) → leb new (length b) ≡ t → Ends (append_to (judge_sheet used b) used D b)
          fit true q = done c e (leb-true new (length b) q) (whole true q)
          fit false q = short c e (leb-false new (length b) q) (whole false q)

  new_is : new ≡ used + 84 * (round_up (length (layers_of (chunks (used / 84) b))) (most edition) + 1)
  new_is = ap (λ (n : ℕ). used + 84 * n) (length_directory edition (suc (used / 84)) (layers_of (chunks (used / 84) b)) ∙ ap (λ (k : ℕ). round_up (length (layers_of (chunks (used / 84) b))) k + 1) (sym (most_is edition)))

  -- no answer is of two kinds
  unlike : {A : Type 0} (x : A) (number at : ℕ) → given x ≡ refused number at → ⊥
  unlike x number at e = let z : ◌≡◌ {A = ℕ} 0 1 = cc in omega arith

  pub append-refused : (number at : ℕ) → (append_directory edition used b).answer ≡ refused number at ↔ AppendRefusal edition used b (length (layers_of (chunks (used / 84) b))) number at
  append-refused number at = (forth ends, back ends)
    where
      forth : Ends (append_directory edition used b) → (append_directory edition used b).answer ≡ refused number at → AppendRefusal edition used b (length (layers_of (chunks (used / 84) b))) number at
      forth (own n r e o) q = let p : ◌≡◌ {A = Answer ℕ} (refused n r) (refused number at) = sym (ap (λ (x : Outcome ℕ). x.answer) o) ∙ q in let i : n ≡ number = cc in let j : r ≡ at = cc in own_refusal (e ∙ ap₂ refused i j)
      forth (short c e l o) q = let p : ◌≡◌ {A = Answer ℕ} (refused 15 0) (refused number at) = sym (ap (λ (x : Outcome ℕ). x.answer) o) ∙ q in let n : number ≡ 15 = cc in let r : at ≡ 0 = cc in no_room c e (omega (arith, new_is)) n r
      forth (done c e l o) q = absurd (unlike new number at (sym (ap (λ (x : Outcome ℕ). x.answer) o) ∙ q))

      back : Ends (append_directory edition used b) → AppendRefusal edition used b (length (layers_of (chunks (used / 84) b))) number at → (append_directory edition used b).answer ≡ refused number at
      back (own n r e o) (own_refusal q) = ap (λ (x : Outcome ℕ). x.answer) o ∙ (let p : ◌≡◌ {A = Answer Counts} (refused n r) (refused number at) = sym e ∙ q in let i : n ≡ number = cc in let j : r ≡ at = cc in ap₂ refused i j)
      back (own n r e o) (no_room c q l x y) = absurd (unlike c n r (sym q ∙ e))
      back (short c e l o) (own_refusal q) = absurd (unlike c number at (sym e ∙ q))
      back (short c e l o) (no_room d q m x y) = ap (λ (z : Outcome ℕ). z.answer) o ∙ sym (ap₂ refused x y)
      back (done c e l o) (own_refusal q) = absurd (unlike c number at (sym e ∙ q))
      back (done c e l o) (no_room d q m x y) = absurd (omega (arith, new_is))

  pub append_unchanged : (number at : ℕ) → (append_directory edition used b).answer ≡ refused number at → (append_directory edition used b).bytes ≡ b
  append_unchanged number at q = go ends
    where
      go : Ends (append_directory edition used b) → (append_directory edition used b).bytes ≡ b
      go (own n r e o) = ap (λ (x : Outcome ℕ). x.bytes) o
      go (short c e l o) = ap (λ (x : Outcome ℕ). x.bytes) o
      go (done c e l o) = absurd (unlike new number at (sym (ap (λ (x : Outcome ℕ). x.answer) o) ∙ q))

  pub append_leaves : (n : ℕ) → (append_directory edition used b).answer ≡ given n → Appended edition used b n (append_directory edition used b).bytes
  append_leaves n q = go ends
    where
      go : Ends (append_directory edition used b) → Appended edition used b n (append_directory edition used b).bytes
      go (own m r e o) = absurd (unlike n m r (sym q ∙ ap (λ (x : Outcome ℕ). x.answer) o))
      go (short c e l o) = absurd (unlike n 15 0 (sym q ∙ ap (λ (x : Outcome ℕ). x.answer) o))
      go (done c e l o) = record {
        counts = c;
        sheet = e;
        same_length = ap length whole ∙ length-append (take used b ++ flat D) (drop new b) ∙ rw (front_long, length-drop new b) (omega arith);
        front = ap (take used) after ∙ take_at (take used b) (flat D ++ drop new b) used sheet_long;
        behind = ap₂ (λ (k : ℕ) (x : List ℕ). drop k x) new_n whole ∙ drop_at (take used b ++ flat D) (drop new b) new front_long ∙ ap (λ (k : ℕ). drop k b) (sym new_n);
        lists = right-lists edition n (append_directory edition used b).bytes c (accepted-right edition n (append_directory edition used b).bytes c (our_used edition used b n q) (our_edition edition used b n q ∙ e));
      }
        where
          new_n : n ≡ new
          new_n = let p : given n ≡ given new = sym q ∙ ap (λ (x : Outcome ℕ). x.answer) o in let r : n ≡ new = cc in r

          after : (append_directory edition used b).bytes ≡ take used b ++ (flat D ++ drop new b)
          after = ap (λ (x : Outcome ℕ). x.bytes) o

          whole : (append_directory edition used b).bytes ≡ (take used b ++ flat D) ++ drop new b
          whole = after ∙ sym (append_assoc (take used b) (flat D) (drop new b))

          sheet_long : length (take used b) ≡ used
          sheet_long = length-take-le used b (inside (record { counts = c; judged = e }))

          front_long : length (take used b ++ flat D) ≡ new
          front_long = length-append (take used b) (flat D) ∙ ap₂ (λ (x y : ℕ). x + y) sheet_long (length-flat D (wide_directory edition (suc (used / 84)) (layers_of (chunks (used / 84) b))))
