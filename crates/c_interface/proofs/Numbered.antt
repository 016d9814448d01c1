-- Every refusal of every call has a number of at least 1, and so has every header that the way up or a jump answers. Assumes nothing.
use mathlib.Core.Path.{◌≡◌, refl, sym, ap, ◌∙◌}
use mathlib.Core.Bool.{Bool, true, false, cond, ◌&&◌}
use mathlib.Core.List.{List, [], ◌∷◌, ◌++◌, map}
use mathlib.Core.Logic.{◌⊎◌, inl, inr}
use Prim.Native.Nat.{ℕ, zero, suc, pred, ◌+◌, ◌-◌, ◌*◌, ◌/◌, ◌<◌, ◌≤◌}
use Prim.Native.String.{String}
use native.Mathlib.Omega.{arith}
use borrow.Author.Tests.{eqb-false}
use lib.Dec.{leb, ltb, eqb}
use lib.ListN.{length, take, drop}
use lib.IntN.{ℤ}
use Rattle.format.specs.Basics.{Answer, given, refused, Outcome, Fault, none, fault, or_else, to_fault, unless, chunks, flat, length_ok}
use Rattle.format.specs.Column.{read_alone, write_alone, column_answer, column_of, width_ok, fits, written}
use Rattle.format.specs.declared.Column.{Column}
use Rattle.format.specs.declared.Column.TheVariants.{Value, MinusZero, Malformed}
use Rattle.format.specs.Corner.{is_unit, fraction_ok, millimetres, join, gives, split}
use Rattle.format.proofs.Corners.{whole_of, fraction_of}
use Rattle.format.proofs.ChecksJudging.{sheet_numbered}
use Rattle.format.proofs.ChecksIndex.{index_numbered}
use Rattle.format.specs.Record.{view}
use Rattle.format.specs.Judge.{File, file_of, Counts, after_stage_one, judge_sheet, judge_index}
use Rattle.format.specs.Above.{Way, no_header, to_header, above_at, headers_met, up}
use Rattle.format.specs.Above as Above
use Rattle.format.specs.Edit.{RecordList, block_of, insert_fault, inserted, remove11, removed}
use Rattle.format.specs.Calls.{Edit, insert, remove, PlainStep, conclude, plain}
use Rattle.format.specs.Run.{Buffer, list_of, call}
use Rattle.format.specs.Run as Run
use Rattle.format.specs.Normal.{normal_to, normal_sheet_records, normal_index_records, normal_sheet, normal_index}
use Rattle.format.specs.Program.{printed, line_to, report_to}
use Rattle.format.specs.Text.{bytes, same}
use Rattle.format.specs.Layout.{Col, layouts}
use Rattle.format_lines.specs.LineEnds.{lines, end_ok, end_fault, plain_fault, line_fault, plain_twin, line_twin, otherwise, judge_sheet_lines, judge_index_lines, write_to, target_fault, to_lines, from_lines}
use Rattle.format_directory.specs.declared.Edition.{Edition}
use Rattle.format_directory.specs.declared.Edition.TheVariants.{One, Two}
use Rattle.format_directory.specs.Directory.{layers_of, directory_of, used_ok, last_record, pointer_in, layer_count, closing_ok, records_before, records_from, differs, after_sheet, judge_from, after_closing, judge_edition, judge_directory, append_to, append_directory, listed_in, directory_in, jump, edition_of, edition_ok, after_edition, judge_either_edition, LayerEntry, entry_in, jump_either_edition}
use Rattle.format_directory.specs.Directory as Directory
use Rattle.format_directory.specs.DirectoryChecks.{ListsLayers}
use Rattle.format_directory.proofs.Claims.{jump-counts, jump-refuses, either_exactly, jump_either_counts, jump_either_refuses}
use Rattle.format_words.specs.Words.{from_zero, entry, refusals, edition_words, refusal_words, text_to, refusal_to, column_in, layout_column, name_of, name_to}
use Rattle.c_interface.specs.Interface.{Numbered, answers, refuses, WayNumbered, has_none, has_header, refuses_way}

-- what holds of both sides of a test holds of what it chooses
chosen : {A : Type 0} (P : A → Type 0) (t : Bool) {a b : A} → P a → P b → P (cond t a b)
chosen P true p q = p
chosen P false p q = q

-- ---- judging
with_number : (answer : Answer Counts) → ((number at : ℕ) → answer ≡ refused number at → 0 < number) → Numbered answer
with_number (given counts) some = answers
with_number (refused zero at) some = absurd (omega (arith, some 0 at refl))
with_number (refused (suc n) at) some = refuses

pub judged-sheet : (used : ℕ) (buffer : List ℕ) → Numbered (judge_sheet used buffer)
judged-sheet used buffer = with_number (judge_sheet used buffer) (sheet_numbered used buffer)

pub judged-index : (used : ℕ) (buffer : List ℕ) → Numbered (judge_index used buffer)
judged-index used buffer = with_number (judge_index used buffer) (index_numbered used buffer)

given-or : {A : Type 0} (n : ℕ) (t : Bool) (a : A) → Numbered (cond t (given a) (refused (suc n) 0))
given-or n true a = answers
given-or n false a = refuses

written-or : (n : ℕ) (t : Bool) (size : ℕ) (new old : List ℕ) → Numbered (cond {A = Outcome ℕ} t (record { answer = given size; bytes = new }) (record { answer = refused (suc n) 0; bytes = old })).answer
written-or n true size new old = answers
written-or n false size new old = refuses

-- ---- files with line ends
data FaultNumbered : Fault → Type 0 where
  no_fault : FaultNumbered none
  some-fault : {n at : ℕ} → FaultNumbered (fault (suc n) at)

fault-to : (n at : ℕ) → FaultNumbered (to_fault n at)
fault-to zero at = no_fault
fault-to (suc n) at = some-fault

fault-or : {f g : Fault} → FaultNumbered f → FaultNumbered g → FaultNumbered (or_else f g)
fault-or no_fault q = q
fault-or some-fault q = some-fault

ends_numbered : (number : ℕ) (ls : List (List ℕ)) → FaultNumbered (end_fault number ls)
ends_numbered number [] = no_fault
ends_numbered number (l ∷ ls) = fault-or (fault-to (unless (end_ok l) 18) number) (ends_numbered (suc number) ls)

lines_numbered : (used : ℕ) (buffer : List ℕ) → FaultNumbered (line_fault used buffer)
unfolding line_fault
lines_numbered used buffer = fault-or (fault-to (unless (length_ok 86 used buffer) 1) 0) (ends_numbered 1 (lines (used / 86) buffer))

judged-otherwise : {f : Fault} {a : Answer Counts} → FaultNumbered f → Numbered a → Numbered (otherwise f a)
judged-otherwise no_fault q = q
judged-otherwise some-fault q = refuses

pub judged-sheet-lines : (used : ℕ) (buffer : List ℕ) → Numbered (judge_sheet_lines used buffer)
unfolding judge_sheet_lines
judged-sheet-lines used buffer = judged-otherwise (lines_numbered used buffer) (judged-sheet (length (plain_twin used buffer)) (plain_twin used buffer))

pub judged-index-lines : (used : ℕ) (buffer : List ℕ) → Numbered (judge_index_lines used buffer)
unfolding judge_index_lines
judged-index-lines used buffer = judged-otherwise (lines_numbered used buffer) (judged-index (length (plain_twin used buffer)) (plain_twin used buffer))

file-written : {f : Fault} (result target : List ℕ) → FaultNumbered f → Numbered (write_to (or_else f (target_fault result target)) result target).answer
file-written result target p = go (fault-or p (fault-to (unless (leb (length result) (length target)) 15) 0))
  where
    go : {g : Fault} → FaultNumbered g → Numbered (write_to g result target).answer
    go no_fault = answers
    go some-fault = refuses

pub lines-written : (used : ℕ) (buffer target : List ℕ) → Numbered (to_lines used buffer target).answer
unfolding to_lines plain_fault
lines-written used buffer target = file-written (line_twin used buffer) target (fault-to (unless (length_ok 84 used buffer) 1) 0)

pub plain-written : (used : ℕ) (buffer target : List ℕ) → Numbered (from_lines used buffer target).answer
unfolding from_lines
plain-written used buffer target = file-written (plain_twin used buffer) target (lines_numbered used buffer)

-- ---- a directory of layers
differs_numbered : (number : ℕ) (xs ys : List (List ℕ)) → FaultNumbered (differs number xs ys)
differs_numbered number [] [] = no_fault
differs_numbered number [] (y ∷ ys) = some-fault
differs_numbered number (x ∷ xs) [] = some-fault
differs_numbered number (x ∷ xs) (y ∷ ys) = fault-or (fault-to (unless (same x y) 19) number) (differs_numbered (suc number) xs ys)

sheet-first : {a : Answer Counts} {f : Fault} → Numbered a → FaultNumbered f → Numbered (after_sheet a f)
sheet-first answers no_fault = answers
sheet-first answers some-fault = refuses
sheet-first refuses q = refuses

judged-from : (e : Edition) (pointer used : ℕ) (buffer : List ℕ) → Numbered (judge_from e pointer used buffer)
unfolding judge_from
judged-from e pointer used buffer = sheet-first (judged-sheet (84 * pred pointer) buffer) (differs_numbered pointer (records_from pointer used buffer) (directory_of e pointer (layers_of (records_before pointer buffer))))

closing-first : (t : Bool) (number : ℕ) {a : Answer Counts} → Numbered a → Numbered (after_closing t number a)
closing-first true number q = q
closing-first false number q = refuses

length-first : (t : Bool) {a : Answer Counts} → Numbered a → Numbered (after_stage_one t a)
length-first true q = q
length-first false q = refuses

judged_edition : (e : Edition) (used : ℕ) (buffer : List ℕ) → Numbered (judge_edition e used buffer)
unfolding judge_edition
judged_edition e used buffer = closing-first (closing_ok e (used / 84) (last_record used buffer)) (used / 84) (judged-from e (pointer_in (last_record used buffer)) used buffer)

pub judged_directory : (used : ℕ) (buffer : List ℕ) → Numbered (judge_directory used buffer)
unfolding judge_directory
judged_directory used buffer = length-first (used_ok used buffer) (judged_edition One used buffer)

edition_first : (t : Bool) (number : ℕ) {a : Answer Counts} → Numbered a → Numbered (after_edition t number a)
edition_first true number q = q
edition_first false number q = refuses

pub judged_either : (used : ℕ) (buffer : List ℕ) → Numbered (judge_either_edition used buffer)
unfolding judge_either_edition
judged_either used buffer = length-first (used_ok used buffer) (edition_first (edition_ok (last_record used buffer)) (used / 84) (judged_edition (edition_of (last_record used buffer)) used buffer))

appended : {a : Answer Counts} (used : ℕ) (directory : List (List ℕ)) (buffer : List ℕ) → Numbered a → Numbered (append_to a used directory buffer).answer
appended used directory buffer answers = written-or 14 (leb (used + 84 * length directory) (length buffer)) (used + 84 * length directory) (take used buffer ++ (flat directory ++ drop (used + 84 * length directory) buffer)) buffer
appended used directory buffer refuses = refuses

pub directory_written : (e : Edition) (used : ℕ) (buffer : List ℕ) → Numbered (append_directory e used buffer).answer
unfolding append_directory
directory_written e used buffer = appended used (directory_of e (suc (used / 84)) (layers_of (chunks (used / 84) buffer))) buffer (judged-sheet used buffer)

jump-judged : {A : Type 0} {a : Answer Counts} {w : Answer A} → Numbered a → Numbered w → Numbered (Directory.after_judging a w)
jump-judged answers q = q
jump-judged refuses q = refuses

pub jumped : (used : ℕ) (buffer : List ℕ) (n : ℕ) → Numbered (jump used buffer n)
unfolding jump
jumped used buffer n = jump-judged (judged_directory used buffer) (given-or 16 (leb 1 n && leb n (layer_count (last_record used buffer))) (listed_in One (directory_in used buffer) n 0))

-- a refusal counts as one that has a header
abbrev header_in : Answer ℕ → ℕ
header_in (given h) = h
header_in (refused n r) = 1

pub jumped_to : (used : ℕ) (buffer : List ℕ) (n h : ℕ) → jump used buffer n ≡ given h → 1 ≤ h
jumped_to used buffer n h e = go (judge_directory used buffer) refl
  where
    go : (a : Answer Counts) → judge_directory used buffer ≡ a → 1 ≤ h
    go (given counts) f = omega (arith, ((jump-counts used buffer counts n h f).0 e).header.numbered)
    go (refused k r) f = let d : 1 ≡ h = ap header_in (sym (jump-refuses used buffer k r n f) ∙ e) in omega arith

pub jumped_either : (used : ℕ) (buffer : List ℕ) (n : ℕ) → Numbered (jump_either_edition used buffer n)
unfolding jump_either_edition
jumped_either used buffer n = jump-judged (judged_either used buffer) (given-or 16 (leb 1 n && leb n (layer_count (last_record used buffer))) (entry_in (edition_of (last_record used buffer)) (directory_in used buffer) n))

abbrev entry_header_in : Answer LayerEntry → ℕ
entry_header_in (given l) = l.header
entry_header_in (refused n r) = 1

pub jumped_either_to : (used : ℕ) (buffer : List ℕ) (n : ℕ) (l : LayerEntry) → jump_either_edition used buffer n ≡ given l → 1 ≤ l.header
jumped_either_to used buffer n l e = go (judge_either_edition used buffer) refl
  where
    of : (counts : Counts) → ListsLayers One used buffer counts ⊎ ListsLayers Two used buffer counts → 1 ≤ l.header
    of counts (inl p) = omega (arith, ((jump_either_counts One used buffer counts n l p).0 e).0.header.numbered)
    of counts (inr p) = omega (arith, ((jump_either_counts Two used buffer counts n l p).0 e).0.header.numbered)

    go : (a : Answer Counts) → judge_either_edition used buffer ≡ a → 1 ≤ l.header
    go (given counts) f = of counts ((either_exactly used buffer counts).0 f)
    go (refused k r) f = let d : 1 ≡ l.header = ap entry_header_in (sym (jump_either_refuses used buffer k r n f) ∙ e) in omega arith

-- ---- columns and corners
column-said : (c : Column) → Numbered (column_answer c)
column-said (Value z) = answers
column-said MinusZero = refuses
column-said Malformed = refuses

pub column_read : (column : List ℕ) → Numbered (read_alone column)
unfolding read_alone
column_read column = chosen Numbered (width_ok (length column)) (column-said (column_of column)) (refuses {n = 15} {at = 0})

pub column-written : (column : List ℕ) (z : ℤ) → Numbered (write_alone column z).answer
unfolding write_alone
column-written column z = written-or 15 (width_ok (length column) && fits (length column) z) (length column) (written (length column) z) column

pub joined : (unit : ℕ) (whole fraction : ℤ) → Numbered (join unit whole fraction)
unfolding join
joined unit whole fraction = chosen Numbered (is_unit unit && fits 7 whole && fits 4 fraction) (given-or 8 (fraction_ok unit whole fraction) (millimetres unit whole fraction)) (refuses {n = 15} {at = 0})

pub parted : (unit : ℕ) (z : ℤ) → Numbered (split unit z)
unfolding split
parted unit z = given-or 15 (gives (join unit (whole_of z) (fraction_of unit z)) z) (record { whole = whole_of z; fraction = fraction_of unit z })

-- ---- the way up
some-header : (number met : ℕ) → (number ≡ 0 → ⊥) → WayNumbered (given (to_header number met))
some-header zero met some = absurd (some refl)
some-header (suc n) met some = has_header

header_placed : (part above met : ℕ) → WayNumbered (given (cond (eqb above 0) no_header (to_header (part + above) met)))
header_placed part above met = go (eqb above 0) refl
  where
    go : (t : Bool) → eqb above 0 ≡ t → WayNumbered (given (cond t no_header (to_header (part + above) met)))
    go true e = has_none
    go false e = some-header (part + above) met (λ d. let none_above : above ≡ 0 = omega arith in eqb-false above 0 e none_above)

way-judged : {a : Answer Counts} {w : Answer Way} → Numbered a → WayNumbered w → WayNumbered (Above.after_judging a w)
way-judged answers q = q
way-judged refuses q = refuses_way

pub way_numbered : (used : ℕ) (buffer : List ℕ) (number : ℕ) → WayNumbered (up used buffer number)
unfolding up
way_numbered used buffer number = way-judged (judged-sheet used buffer) (chosen WayNumbered (ltb f.part_length number && leb number (f.part_length + length f.body)) (header_placed f.part_length (above_at f.body (number - f.part_length)) (headers_met number f.body (number - f.part_length))) (refuses_way {n = 16} {at = 0}))
  where
    f : File
    f = file_of (chunks (used / 84) buffer)

-- ---- calls that write
normal_numbered : {a : Answer Counts} (used : ℕ) (records : List (List ℕ)) (second : List ℕ) → Numbered a → Numbered (normal_to a used records second).answer
normal_numbered used records second answers = written-or 14 (leb used (length second)) used (flat records ++ drop used second) second
normal_numbered used records second refuses = refuses

pub sheet-written : (used : ℕ) (buffer second : List ℕ) → Numbered (normal_sheet used buffer second).answer
unfolding normal_sheet
sheet-written used buffer second = normal_numbered used (normal_sheet_records (chunks (used / 84) buffer)) second (judged-sheet used buffer)

pub index-written : (used : ℕ) (buffer second : List ℕ) → Numbered (normal_index used buffer second).answer
unfolding normal_index
index-written used buffer second = normal_numbered used (normal_index_records (chunks (used / 84) buffer)) second (judged-index used buffer)

pub line-written : (input out : List ℕ) → Numbered (report_to input out).answer
unfolding report_to line_to
line-written input out = written-or 14 (leb (length (printed input)) (length out)) (length (printed input)) (printed input ++ drop (length (printed input)) out) out

-- ---- words and columns
entry_numbered : {A : Type 0} (n : ℕ) (l : List A) → Numbered (from_zero n l)
entry_numbered n [] = refuses
entry_numbered zero (x ∷ xs) = answers
entry_numbered (suc n) (x ∷ xs) = entry_numbered n xs

entry-answers : {A : Type 0} (n : ℕ) (l : List A) → Numbered (entry n l)
unfolding entry
entry-answers zero l = refuses
entry-answers (suc n) l = entry_numbered n l

column_in_lem : {a : Answer (List Col)} → Numbered a → (column : ℕ) → Numbered (column_in a column)
column_in_lem (answers {a}) column = entry-answers column a
column_in_lem refuses column = refuses

pub column-found : (layout column : ℕ) → Numbered (layout_column layout column)
unfolding layout_column
column-found layout column = column_in_lem (entry-answers layout layouts) column

text-written : {a : Answer String} → Numbered a → (out : List ℕ) → Numbered (text_to a out).answer
unfolding line_to
text-written (answers {a}) out = written-or 14 (leb (length (bytes a)) (length out)) (length (bytes a)) (bytes a ++ drop (length (bytes a)) out) out
text-written refuses out = refuses

words_answer : (number : ℕ) → Numbered (refusal_words number)
unfolding refusal_words
words_answer number = chosen Numbered (eqb number 27) (answers {a = edition_words}) (entry-answers number refusals)

pub refusal_written : (number : ℕ) (out : List ℕ) → Numbered (refusal_to number out).answer
unfolding refusal_to
refusal_written number out = text-written (words_answer number) out

name-found : {a : Answer Col} → Numbered a → Numbered (name_of a)
name-found answers = answers
name-found refuses = refuses

pub name-written : (layout column : ℕ) (out : List ℕ) → Numbered (name_to (layout_column layout column) out).answer
unfolding name_to
name-written layout column out = text-written (name-found (column-found layout column)) out

-- ---- edits
concluded : (n : ℕ) (old new : RecordList) → Numbered (conclude n old new).reply
concluded zero old new = answers
concluded (suc n) old new = refuses

plain_numbered : (edit : Edit) (list : RecordList) → Numbered (plain edit list).reply
unfolding plain
plain_numbered (insert place block) list = concluded (insert_fault (file_of list.records) place list.tail (map view (block_of block)) 200000) list (inserted list place (block_of block))
plain_numbered (remove place) list = concluded (remove11 (file_of list.records) place) list (removed list place)

call-judged : {a : Answer Counts} (s : PlainStep) (b : Buffer) → Numbered a → Numbered s.reply → Numbered (Run.after_judging a s b).reply
call-judged s b answers q = q
call-judged s b refuses q = refuses

pub edited : (edit : Edit) (b : Buffer) → Numbered (call edit b).reply
unfolding call
edited edit b = call-judged (plain edit (list_of b)) b (judged-sheet b.used b.bytes) (plain_numbered edit (list_of b))
