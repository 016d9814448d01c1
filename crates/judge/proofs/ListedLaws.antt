-- A sheet opened against the records of a directory, in the code's own words, and what callers cite of it. Assumes nothing.
use Rattle.std.specs.Prelude.{Ok, Err}
use mathlib.Core.Path.{◌≡◌, refl, ap, sym, ◌∙◌}
use mathlib.Core.Bool.{true, false}
use mathlib.Core.List.{List}
use Prim.Native.Nat.{ℕ, ◌/◌}
use native.Mathlib.Omega.{arith}
use lib.ListN.{length, take}
use Rattle.format.specs.Basics.{Answer, given, refused, chunks, stage_one_ok}
use Rattle.format.specs.Reasons.{refusal_number, refusal_for}
use Rattle.format.specs.declared.Reason.TheVariants.{Length}
use Rattle.format.specs.declared.Refusal.{Refusal}
use Rattle.format.specs.Sheet.{part_length}
use Rattle.format.specs.Judge.{Counts, judge_sheet}
use Rattle.format.proofs.JudgeStages.{stage_one_lem}
use Rattle.format.proofs.AcceptedSheet.{elements_are}
use Rattle.format.proofs.ChecksJudging.{sheet_numbered}
use Rattle.files.specs.declared.Stride.TheVariants.{Plain}
use Rattle.files.specs.Records.{records_of, length_ok}
use Rattle.files.proofs.Records.{front-records}
use Rattle.files.proofs.StageOne.{plain-length}
use Rattle.format_directory.specs.declared.Edition.{Edition}
use Rattle.format_directory.specs.Directory.{layers_of}
use Rattle.judge.specs.Listed.{ListedSheet}
use Rattle.judge.specs.declared.opening.Against as Opening
use Rattle.judge.specs.Walks.{OpenedAgainst, against_said}
use Rattle.judge.specs.Sheet.{sheet_said}
use Rattle.format.proofs.Reasons.{not_zero}
use Rattle.judge.specs.Listed.{first_unlisted, first_numbers, kept_layers, listed_sheet, listed_in, listed_said, unlisted_said}
use Rattle.judge.proofs.FileLaws.{sheet-opened}
use Rattle.judge.proofs.Opened.{Opened, opened-sheet, sheet_refused_is}

-- what fault 0 says of a sheet `r` that was opened against a directory: that it is accepted, and what its numbers are
pub record OpenedListed (e : Edition) (used : ℕ) (buffer : List ℕ) (directory : List (List ℕ)) (r : ListedSheet) : Type 0 where
  pub counts : Counts
  pub judged : judge_sheet used buffer ≡ given counts
  pub items_are : r.items ≡ counts.items
  pub part_is : r.part ≡ part_length (chunks (used / 84) buffer)
  pub layers_are : r.layers ≡ length (layers_of (chunks (used / 84) buffer))
  pub unlisted_is : r.unlisted ≡ first_unlisted e directory 0 (layers_of (chunks (used / 84) buffer))
  pub first_numbers_are : r.first_numbers ≡ first_numbers e (kept_layers e) (layers_of (chunks (used / 84) buffer))

module _ (used : ℕ) (buffer : List ℕ) (directory : List (List ℕ)) (e : Edition) where
  by : (answer : Answer Counts) → judge_sheet used buffer ≡ answer → listed_in e used buffer directory ≡ listed_sheet e answer (chunks (used / 84) buffer) directory
  unfolding listed_in
  by answer q = ap (λ (a : Answer Counts). listed_sheet e a (chunks (used / 84) buffer) directory) q

  stage : stage_one_ok used buffer ≡ length_ok Plain used buffer
  stage = sym (plain-length used buffer)

  pub listed-length : (r : Refusal) → length_ok Plain used buffer ≡ false → r ≡ refusal_for Length 0 → listed_said (Err r) ≡ listed_in e used buffer directory
  unfolding judge_sheet
  listed-length r h q = rw q (sym (by (refused 1 0) (rw (stage, h))))

  module _ (h : length_ok Plain used buffer ≡ true) where
    pub listed-refused : (r : Refusal) → OpenedAgainst (records_of Plain (take used buffer)) 0 directory e (against_said (Err r)) → listed_said (Err r) ≡ listed_in e used buffer directory
    listed-refused r opened = sym (by (refused (refusal_number r.reason) r.at) (sheet_refused_is used buffer 0 (sheet_said (Err r)) (sheet-opened used buffer h 0 (sheet_said (Err r)) opened.sheet_is) (not_zero r.reason)))

    pub listed-given : (a : Opening.Against) → OpenedAgainst (records_of Plain (take used buffer)) 0 directory e (against_said (Ok a)) → listed_said (Ok (record { items = a.sheet.items; part = a.sheet.part; layers = a.layers; unlisted = a.unlisted; first_numbers = a.first_numbers })) ≡ listed_in e used buffer directory
    listed-given a opened = same ∙ sym (by (given o.accepted.counts) o.accepted.judged)
      where
        o : Opened used buffer 0 (sheet_said (Ok a.sheet))
        o = opened-sheet used buffer 0 (sheet_said (Ok a.sheet)) (sheet-opened used buffer h 0 (sheet_said (Ok a.sheet)) opened.sheet_is) refl

        same-records : records_of Plain (take used buffer) ≡ chunks (used / 84) buffer
        same-records = front-records used buffer (stage_one_lem used buffer (stage ∙ h)).inside

        same : record { fault = 0; at = 0; items = a.sheet.items; part = a.sheet.part; layers = a.layers; unlisted = unlisted_said a.unlisted; first_numbers = a.first_numbers } ≡ listed_sheet e (given o.accepted.counts) (chunks (used / 84) buffer) directory
        same = λ i. record {
          fault = 0;
          at = 0;
          items = (o.items_are ∙ elements_are o.accepted) i;
          part = o.part_is i;
          layers = (opened.count refl ∙ ap (λ (rs : List (List ℕ)). length (layers_of rs)) same-records) i;
          unlisted = (opened.first_is refl ∙ ap (λ (rs : List (List ℕ)). first_unlisted e directory 0 (layers_of rs)) same-records) i;
          first_numbers = (opened.kept refl ∙ ap (λ (rs : List (List ℕ)). first_numbers e (kept_layers e) (layers_of rs)) same-records) i;
        }

  -- ---- what callers cite
  module _ (r : ListedSheet) (is : r ≡ listed_in e used buffer directory) where
    pub listed_refusal : (r.fault ≡ 0 → ⊥) → judge_sheet used buffer ≡ refused r.fault r.at
    listed_refusal ne = go (judge_sheet used buffer) refl
      where
        go : (answer : Answer Counts) → judge_sheet used buffer ≡ answer → judge_sheet used buffer ≡ refused r.fault r.at
        go (given counts) q = absurd (ne (ap (λ (x : ListedSheet). x.fault) (is ∙ by (given counts) q)))
        go (refused number at) q = q ∙ rw (is ∙ by (refused number at) q)

    pub opened-listed : r.fault ≡ 0 → OpenedListed e used buffer directory r
    opened-listed z = go (judge_sheet used buffer) refl
      where
        go : (answer : Answer Counts) → judge_sheet used buffer ≡ answer → OpenedListed e used buffer directory r
        go (given counts) q =
            let fields : r ≡ listed_sheet e (given counts) (chunks (used / 84) buffer) directory = is ∙ by (given counts) q in
            record {
              counts = counts;
              judged = q;
              items_are = ap (λ (x : ListedSheet). x.items) fields;
              part_is = ap (λ (x : ListedSheet). x.part) fields;
              layers_are = ap (λ (x : ListedSheet). x.layers) fields;
              unlisted_is = ap (λ (x : ListedSheet). x.unlisted) fields;
              first_numbers_are = ap (λ (x : ListedSheet). x.first_numbers) fields;
            }
        go (refused number at) q = absurd (omega (arith, z, ap (λ (x : ListedSheet). x.fault) (is ∙ by (refused number at) q), sheet_numbered used buffer number at q))
