-- The four calls, answer by answer. Assumes nothing.
use mathlib.Core.Path.{◌≡◌, ap, ap₂, sym, ◌∙◌}
use mathlib.Core.Bool.{Bool, true, false, not}
use mathlib.Core.List.{List, ◌++◌, map}
use Prim.Native.Nat.{ℕ, ◌*◌, ◌/◌, ◌≤◌, ◌<◌}
use native.Mathlib.Omega.{arith}
use borrow.Author.Tests.{not-true, not-false, lt-leb}
use lib.ListN.{length, length-map, take, drop}
use Rattle.format.proofs.Lists.{length-chunks}
use lib.Seq.{length-take-le}
use Rattle.format.specs.Basics.{Answer, Fault, given, refused, none, fault, to_fault, chunks, flat}
use Rattle.format.specs.Basics as Basics
use Rattle.format.specs.Judge.{Counts, judge_records, judge_index_records, after_stage_one}
use Rattle.format.specs.Answers.{judged_answer, written_answer}
use Rattle.format.specs.Reasons.{refusal_number}
use Rattle.format.specs.declared.Refusal.{Refusal}
use Rattle.std.specs.Prelude.{Err}
use Rattle.format.proofs.JudgeStages.{WholeOf, length_ok_lem, whole_ok}
use Rattle.format_lines.specs.LineEnds.{lines, without_end, end_fault, plain_fault, line_fault, plain_twin, line_twin, judge_sheet_lines, judge_index_lines, to_lines, from_lines}
use Rattle.format_lines.proofs.LineEnds.{lined-form, length-lines, sheet-records, index-records, length-line_twin, length-plain_twin, does}
use Rattle.files.specs.declared.Stride.TheVariants.{Plain, Lines}
use Rattle.files.specs.Records.{stride_of, records_of, length_ok}
use Rattle.files.proofs.Records.{front-records}
use Rattle.judge.specs.Sheet.{judge_by}
use Rattle.line_ends.specs.Steps.{as_written, written_first}
use Rattle.line_ends.proofs.Writing.{as_plain}
use Rattle.line_ends.proofs.Records as Records
use Rattle.line_ends.proofs.Records.{front-lines}

-- ---- `check_lines`: 1, then 18; `ok` is what the test of the length came to
module _ (used : ℕ) (buffer : List ℕ) (ok : Bool) (of : ok ≡ length_ok Lines used buffer) where
  length_is : Basics.length_ok 86 used buffer ≡ ok
  unfolding length_ok stride_of
  length_is = sym of

  pub wrong-length : not ok ≡ true → fault 1 0 ≡ line_fault used buffer
  unfolding line_fault
  wrong-length h = rw (length_is, not-true ok h)

  module _ (h : not ok ≡ false) where
    whole : WholeOf 86 used buffer
    whole = length_ok_lem 86 used buffer (length_is ∙ not-false ok h)

    pub used-length : used ≡ length (take used buffer)
    used-length = sym (length-take-le used buffer whole.inside)

    pub ends : (found : Fault) → found ≡ end_fault 1 (lines (length (take used buffer) / 86) (take used buffer)) → found ≡ line_fault used buffer
    unfolding line_fault
    ends found e = e ∙ sym (rw (length_is, not-false ok h) (ap (end_fault 1) (sym (front-lines used buffer whole.inside))))

-- ---- what a fault says
module _ (used : ℕ) (buffer : List ℕ) (r : Refusal) (fails : fault (refusal_number r.reason) r.at ≡ line_fault used buffer) where
  pub sheet-refused : judged_answer (Err r) ≡ judge_sheet_lines used buffer
  unfolding judged_answer judge_sheet_lines
  sheet-refused = rw (sym fails)

  pub index-refused : judged_answer (Err r) ≡ judge_index_lines used buffer
  unfolding judged_answer judge_index_lines
  index-refused = rw (sym fails)

  pub back-refused : (target : List ℕ) → record { answer = written_answer (Err r); bytes = target } ≡ from_lines used buffer target
  unfolding written_answer from_lines
  back-refused target = rw (sym fails)

-- ---- and what none says
module _ (used : ℕ) (buffer : List ℕ) (sound : none ≡ line_fault used buffer) where
  passes : line_fault used buffer ≡ none
  passes = sym sound

  -- by the records at the stride of lines
  by_records : (of_records : List (List ℕ) → Answer Counts) → judge_by of_records Lines used buffer ≡ of_records (map without_end (lines (used / 86) buffer))
  unfolding judge_by length_ok stride_of
  by_records of_records =
      let w : WholeOf 86 used buffer = (lined-form used buffer passes).0 in
      ap₂ (λ (t : Bool) (rs : List (List ℕ)). after_stage_one t (of_records rs)) (whole_ok 86 used buffer w) (Records.front-records used buffer w.inside)

  pub sheet-judged : (answer : Answer Counts) → answer ≡ judge_by judge_records Lines used buffer → answer ≡ judge_sheet_lines used buffer
  sheet-judged answer e = e ∙ by_records judge_records ∙ sym (sheet-records used buffer passes)

  pub index-judged : (answer : Answer Counts) → answer ≡ judge_by judge_index_records Lines used buffer → answer ≡ judge_index_lines used buffer
  index-judged answer e = e ∙ by_records judge_index_records ∙ sym (index-records used buffer passes)

  -- ---- `from_lines`
  module _ (target : List ℕ) where
    form : WholeOf 86 used buffer
    form = (lined-form used buffer passes).0

    twin-long : length (plain_twin used buffer) ≡ 84 * (used / 86)
    twin-long = length-plain_twin used buffer form

    pub back-used : used ≡ length (take used buffer)
    back-used = sym (length-take-le used buffer form.inside)

    pub back-few : used / 86 ≤ 200000
    back-few = omega (arith, form.few)

    pub back-short : length target < 84 * (used / 86) → record { answer = refused 15 0; bytes = target } ≡ from_lines used buffer target
    unfolding written_answer from_lines
    back-short h = rw (passes, lt-leb (length (plain_twin used buffer)) (length target) (omega (arith, twin-long)))

    module _ (room : 84 * (used / 86) ≤ length target) where
      records_are : records_of Lines (take used buffer) ≡ map without_end (lines (used / 86) buffer)
      records_are = Records.front-records used buffer form.inside

      twin_is : flat (map (as_written Plain) (records_of Lines (take used buffer))) ≡ plain_twin used buffer
      unfolding plain_twin
      twin_is = ap flat (as_plain (records_of Lines (take used buffer)) ∙ records_are)

      how_many : length (records_of Lines (take used buffer)) ≡ used / 86
      how_many = ap length records_are ∙ length-map (lines (used / 86) buffer) without_end ∙ length-lines (used / 86) buffer

      pub back-room : stride_of Plain * length (records_of Lines (take used buffer)) ≤ length target
      unfolding stride_of
      back-room = omega (arith, how_many)

      pub back-written : (after : List ℕ) → after ≡ written_first Plain (records_of Lines (take used buffer)) target → record { answer = given (84 * (used / 86)); bytes = after } ≡ from_lines used buffer target
      unfolding written_answer from_lines stride_of
      back-written after e =
          (λ i. record { answer = given (sym twin-long i); bytes = (e ∙ ap₂ (λ (x : List ℕ) (n : ℕ). x ++ drop n target) twin_is (ap (λ (n : ℕ). 84 * n) how_many ∙ sym twin-long)) i })
          ∙ sym (does (line_fault used buffer) (plain_twin used buffer) target passes (omega (arith, twin-long)))

-- ---- `to_lines`
module _ (used : ℕ) (buffer : List ℕ) (ok : Bool) (of : ok ≡ length_ok Plain used buffer) (target : List ℕ) where
  plain-is : Basics.length_ok 84 used buffer ≡ ok
  unfolding length_ok stride_of
  plain-is = sym of

  pub over-length : not ok ≡ true → record { answer = refused 1 0; bytes = target } ≡ to_lines used buffer target
  unfolding written_answer to_lines plain_fault
  over-length h = rw (plain-is, not-true ok h)

  module _ (h : not ok ≡ false) where
    plain-form-of : WholeOf 84 used buffer
    plain-form-of = length_ok_lem 84 used buffer (plain-is ∙ not-false ok h)

    no_fault : plain_fault used buffer ≡ none
    unfolding plain_fault
    no_fault = rw (plain-is, not-false ok h)

    lined-long : length (line_twin used buffer) ≡ 86 * (used / 84)
    lined-long = length-line_twin used buffer plain-form-of

    pub over-used : used ≡ length (take used buffer)
    over-used = sym (length-take-le used buffer plain-form-of.inside)

    pub over-few : used / 84 ≤ 200000
    over-few = omega (arith, plain-form-of.few)

    pub over-short : length target < 86 * (used / 84) → record { answer = refused 15 0; bytes = target } ≡ to_lines used buffer target
    unfolding written_answer to_lines
    over-short l = rw (no_fault, lt-leb (length (line_twin used buffer)) (length target) (omega (arith, lined-long)))

    module _ (room : 86 * (used / 84) ≤ length target) where
      plain-records-are : records_of Plain (take used buffer) ≡ chunks (used / 84) buffer
      plain-records-are = front-records used buffer plain-form-of.inside

      lined-is : flat (map (as_written Lines) (records_of Plain (take used buffer))) ≡ line_twin used buffer
      unfolding line_twin
      lined-is = ap (λ (x : List (List ℕ)). flat (map (as_written Lines) x)) plain-records-are

      how-many-plain : length (records_of Plain (take used buffer)) ≡ used / 84
      how-many-plain = ap length plain-records-are ∙ length-chunks (used / 84) buffer

      pub over-room : stride_of Lines * length (records_of Plain (take used buffer)) ≤ length target
      unfolding stride_of
      over-room = omega (arith, how-many-plain)

      pub over-written : (after : List ℕ) → after ≡ written_first Lines (records_of Plain (take used buffer)) target → record { answer = given (86 * (used / 84)); bytes = after } ≡ to_lines used buffer target
      unfolding written_answer to_lines stride_of
      over-written after e =
          (λ i. record { answer = given (sym lined-long i); bytes = (e ∙ ap₂ (λ (x : List ℕ) (n : ℕ). x ++ drop n target) lined-is (ap (λ (n : ℕ). 86 * n) how-many-plain ∙ sym lined-long)) i })
          ∙ sym (does (plain_fault used buffer) (line_twin used buffer) target no_fault (omega (arith, lined-long)))
