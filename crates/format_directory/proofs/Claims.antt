-- THE CLAIMS about a directory of layers, each in a line; what their words mean stands in specs/DirectoryChecks.antt. All are of all bytes and used lengths, not of
-- accepted files only. Assumes nothing.
use mathlib.Core.Path.{◌≡◌}
use mathlib.Core.Logic.{◌⊎◌, ◌↔◌}
use mathlib.Core.List.{List}
use Prim.Native.Nat.{ℕ, suc, ◌*◌, ◌/◌, ◌≤◌, ◌<◌}
use lib.ListN.{length}
use Rattle.format.specs.Basics.{given, refused, chunks}
use Rattle.format.specs.Judge.{Counts, judge_sheet}
use Rattle.format_directory.specs.declared.Edition.{Edition}
use Rattle.format_directory.specs.declared.Edition.TheVariants.{One, Two}
use Rattle.std.specs.Prelude.{Result}
use Rattle.format.specs.declared.Refusal.{Refusal}
use Rattle.format_directory.specs.declared.LayerEntry as Declared
use Rattle.format_directory.specs.Answers.{jumped_answer, jumped_either_answer}
use Rattle.format_directory.specs.Directory.{layers_of, judge_directory, append_directory, jump, judge_either_edition, LayerEntry, jump_either_edition}
use Rattle.format_directory.specs.DirectoryChecks.{joined, ListsLayers, totals, Meet, UsedFails, DirectoryRefusal, StartsYE, EitherRefusal, AppendRefusal, Appended, NthHeader, NthLayer, header_of}
use Rattle.format_directory.proofs.DirectoryJudged as DirectoryJudged
use Rattle.format_directory.proofs.DirectoryWords as DirectoryWords
use Rattle.format_directory.proofs.DirectoryChecks as DirectoryChecks
use Rattle.format_directory.proofs.DirectoryAppended as DirectoryAppended
use Rattle.format_directory.proofs.DirectoryEditions as DirectoryEditions
use Rattle.format_directory.proofs.DirectoryJumps as DirectoryJumps

-- ---- "We accept a directory exactly when it lists every layer header once, in order, and nothing else"; "Accepted judging answers the sheet's records and items"
pub accepted_exactly : (used : ℕ) (buffer : List ℕ) (counts : Counts) → judge_directory used buffer ≡ given counts ↔ ListsLayers One used buffer counts
accepted_exactly = DirectoryWords.lists_exactly

-- ---- the order of checks: 1; then 19 with the last record, if that is no well-formed "ZE"; then the sheet's own before the pointer; then 19 with the first record that
-- differs
pub refused_exactly : (used : ℕ) (buffer : List ℕ) (number at : ℕ) → judge_directory used buffer ≡ refused number at ↔ DirectoryRefusal One used buffer number at
refused_exactly = DirectoryChecks.refused_exactly

-- ---- "ours passes", with the sheet's own records and items
pub ours_passes : (used : ℕ) (buffer : List ℕ) (new : ℕ) → (append_directory One used buffer).answer ≡ given new → judge_directory new (append_directory One used buffer).bytes ≡ judge_sheet used buffer
ours_passes = DirectoryJudged.ours_passes

-- "an append the new used length; bytes past that stay": the sheet, the directory, and every byte behind it; of either edition
pub append_leaves : (e : Edition) (used : ℕ) (buffer : List ℕ) (new : ℕ) → (append_directory e used buffer).answer ≡ given new → Appended e used buffer new (append_directory e used buffer).bytes
append_leaves = DirectoryAppended.append_leaves

-- an append is refused by the sheet's own number, then by 15, and by nothing else; then no byte has changed
pub append-refused : (e : Edition) (used : ℕ) (buffer : List ℕ) (number at : ℕ) → (append_directory e used buffer).answer ≡ refused number at ↔ AppendRefusal e used buffer (length (layers_of (chunks (used / 84) buffer))) number at
append-refused = DirectoryAppended.append-refused

pub append_unchanged : (e : Edition) (used : ℕ) (buffer : List ℕ) (number at : ℕ) → (append_directory e used buffer).answer ≡ refused number at → (append_directory e used buffer).bytes ≡ buffer
append_unchanged = DirectoryAppended.append_unchanged

-- ---- "Jumping to layer n gives what counting from the front gives", and 17 exactly where there is no layer n
pub jump-counts : (used : ℕ) (buffer : List ℕ) (counts : Counts) (n number : ℕ) → judge_directory used buffer ≡ given counts → jump used buffer n ≡ given number ↔ NthHeader (chunks counts.records buffer) n number
jump-counts = DirectoryJumps.jump-counts

pub jump-outside : (used : ℕ) (buffer : List ℕ) (counts : Counts) (n : ℕ) → judge_directory used buffer ≡ given counts → jump used buffer n ≡ refused 17 0 ↔ ((number : ℕ) → NthHeader (chunks counts.records buffer) n number → ⊥)
jump-outside = DirectoryJumps.jump-outside

-- where judging refuses, every jump refuses alike
pub jump-refuses : (used : ℕ) (buffer : List ℕ) (number at n : ℕ) → judge_directory used buffer ≡ refused number at → jump used buffer n ≡ refused number at
jump-refuses = DirectoryJumps.jump-refuses

-- ---- "Plain judging still refuses directory records with 4, or 1 past 200,000 records": every file that is accepted with its directory, so all that was appended
pub plain-refuses : (used : ℕ) (buffer : List ℕ) (counts : Counts) → judge_directory used buffer ≡ given counts → used ≤ 84 * 200000 → judge_sheet used buffer ≡ refused 4 (suc counts.records)
plain-refuses = DirectoryJumps.plain-refuses

pub plain_refuses_long : (used : ℕ) (buffer : List ℕ) (counts : Counts) → judge_directory used buffer ≡ given counts → 84 * 200000 < used → judge_sheet used buffer ≡ refused 1 0
plain_refuses_long = DirectoryJumps.plain_refuses_long

-- ---- the answer of a jump and the paper's answers are one to one
pub jumps_one_to_one : (x y : Result ℕ Refusal) → jumped_answer x ≡ jumped_answer y → x ≡ y
jumps_one_to_one = DirectoryJumps.one_to_one

-- ---- Order 13, the second edition: "new ones read both"; "Edition 2 is accepted exactly when all three numbers are right for each layer"
pub either_exactly : (used : ℕ) (buffer : List ℕ) (counts : Counts) → judge_either_edition used buffer ≡ given counts ↔ (ListsLayers One used buffer counts ⊎ ListsLayers Two used buffer counts)
either_exactly = DirectoryEditions.either_exactly

-- the order of checks: 1; then 27 exactly when the last record starts "YE" and its edition column is not 2 in written form; then those of its edition
pub either_refused : (used : ℕ) (buffer : List ℕ) (number at : ℕ) → judge_either_edition used buffer ≡ refused number at ↔ EitherRefusal used buffer number at
either_refused = DirectoryEditions.either_refused

-- "ours, appended by its own call, passes", of either edition
pub ours_pass_either : (e : Edition) (used : ℕ) (buffer : List ℕ) (new : ℕ) → (append_directory e used buffer).answer ≡ given new → judge_either_edition new (append_directory e used buffer).bytes ≡ judge_sheet used buffer
ours_pass_either = DirectoryEditions.ours_pass_either

-- ---- "The old calls stay and refuse it with 19 at the last record": whatever else stands in the file. That the old jump refuses alike is jump-refuses
pub old_refuses : (used : ℕ) (buffer : List ℕ) → (UsedFails used buffer → ⊥) → StartsYE used buffer → judge_directory used buffer ≡ refused 19 (used / 84)
old_refuses = DirectoryEditions.old_refuses

-- and what they accept, the new ones accept with the same counts
pub old_accepted : (used : ℕ) (buffer : List ℕ) (counts : Counts) → judge_directory used buffer ≡ given counts → judge_either_edition used buffer ≡ given counts
old_accepted = DirectoryEditions.old_accepted

-- where the last record does not start "YE", they answer alike, refusals too
pub judged_alike : (used : ℕ) (buffer : List ℕ) → (StartsYE used buffer → ⊥) → judge_either_edition used buffer ≡ judge_directory used buffer
judged_alike = DirectoryEditions.judged_alike

-- ---- jumping is counting from the front, "with total and last beside them, both 0 for edition 1"; 17 exactly where there is no layer n
pub jump_either_counts : (e : Edition) (used : ℕ) (buffer : List ℕ) (counts : Counts) (n : ℕ) (layer : LayerEntry) → ListsLayers e used buffer counts → jump_either_edition used buffer n ≡ given layer ↔ NthLayer e (chunks counts.records buffer) n layer
jump_either_counts = DirectoryJumps.jump_either_counts

pub jump_either_outside : (used : ℕ) (buffer : List ℕ) (counts : Counts) (n : ℕ) → judge_either_edition used buffer ≡ given counts → jump_either_edition used buffer n ≡ refused 17 0 ↔ ((number : ℕ) → NthHeader (chunks counts.records buffer) n number → ⊥)
jump_either_outside = DirectoryJumps.jump_either_outside

pub jump_either_refuses : (used : ℕ) (buffer : List ℕ) (number at n : ℕ) → judge_either_edition used buffer ≡ refused number at → jump_either_edition used buffer n ≡ refused number at
jump_either_refuses = DirectoryJumps.jump_either_refuses

-- "find the same headers": in any two accepted files with the same sheet, of whichever editions; and in a file that the old call accepts, what the old jump finds
pub same_headers : (used other : ℕ) (buffer buffer' : List ℕ) (counts counts' : Counts) (n : ℕ) → judge_either_edition used buffer ≡ given counts → judge_either_edition other buffer' ≡ given counts' → chunks counts.records buffer ≡ chunks counts'.records buffer' → header_of (jump_either_edition used buffer n) ≡ header_of (jump_either_edition other buffer' n)
same_headers = DirectoryJumps.same_headers

pub same_as_old : (used : ℕ) (buffer : List ℕ) (counts : Counts) (n : ℕ) → judge_directory used buffer ≡ given counts → header_of (jump_either_edition used buffer n) ≡ jump used buffer n
same_as_old = DirectoryJumps.same_as_old

-- ---- the totals listed add up to the sheet's items; each layer's last record is followed by the next layer's header, the last one's by the end of the sheet
pub totals-add-up : (e : Edition) (used : ℕ) (buffer : List ℕ) (counts : Counts) (l : ListsLayers e used buffer counts) → totals (joined l.layers) ≡ counts.items
totals-add-up = DirectoryEditions.totals-add-up

pub layers_end : (e : Edition) (used : ℕ) (buffer : List ℕ) (counts : Counts) (l : ListsLayers e used buffer counts) → Meet (suc counts.records) (joined l.layers)
layers_end = DirectoryEditions.layers_end

-- ---- plain judging refuses the records of either edition with 4, or 1 past 200,000 records
pub plain_refuses_either : (used : ℕ) (buffer : List ℕ) (counts : Counts) → judge_either_edition used buffer ≡ given counts → used ≤ 84 * 200000 → judge_sheet used buffer ≡ refused 4 (suc counts.records)
plain_refuses_either = DirectoryJumps.plain_refuses_either

pub plain_refuses_either_long : (used : ℕ) (buffer : List ℕ) (counts : Counts) → judge_either_edition used buffer ≡ given counts → 84 * 200000 < used → judge_sheet used buffer ≡ refused 1 0
plain_refuses_either_long = DirectoryJumps.plain_refuses_either_long

-- ---- the answer of a jump in either edition and the paper's answers are one to one
pub either_one_to_one : (x y : Result Declared.LayerEntry Refusal) → jumped_either_answer x ≡ jumped_either_answer y → x ≡ y
either_one_to_one = DirectoryJumps.either_one_to_one
