-- Claims: every refusal of the interface has a number of at least 1 and every header that it answers a record number of at least 1, so that a struct with
-- `refusal` 0 is an answer and one with `header` 0 is none; and two answers with the same struct are the same; of two columns, what is described of them.
-- And the header's rooms for texts are enough. Assumes nothing.
use mathlib.Core.Path.{◌≡◌, refl, ap, ap₂}
use mathlib.Core.List.{List}
use Prim.Native.Nat.{ℕ, suc, ◌≤◌}
use native.Mathlib.Omega.{arith}
use lib.IntN.{ℤ}
use Rattle.format.specs.Basics.{Answer, given, refused}
use Rattle.format.specs.Column.{read_alone, write_alone}
use Rattle.format.specs.Corner.{Corner, join, split}
use Rattle.format.specs.Judge.{Counts, judge_sheet, judge_index}
use Rattle.format.specs.Above.{Way, to_header, up}
use Rattle.format.specs.Calls.{Edit}
use Rattle.format.specs.Run.{Buffer, call}
use Rattle.format.specs.Normal.{normal_sheet, normal_index}
use Rattle.format.specs.Program.{report_to}
use Rattle.format_lines.specs.LineEnds.{judge_sheet_lines, judge_index_lines, to_lines, from_lines}
use Rattle.format_directory.specs.declared.Edition.TheVariants.{One, Two}
use Rattle.format_directory.specs.Directory.{judge_directory, append_directory, jump, judge_either_edition, LayerEntry, jump_either_edition}
use Rattle.c_interface.specs.declared.ZvWay.{ZvWay}
use Rattle.c_interface.specs.declared.ZvNumber.{ZvNumber}
use Rattle.c_interface.specs.declared.ZvCorner.{ZvCorner}
use Rattle.c_interface.specs.declared.ZvCounts.{ZvCounts}
use Rattle.c_interface.specs.declared.ZvLength.{ZvLength}
use Rattle.c_interface.specs.declared.ZvLayer.{ZvLayer}
use Rattle.c_interface.specs.declared.ZvLayerEntry.{ZvLayerEntry}
use Rattle.c_interface.specs.declared.ZvColumn.{ZvColumn}
use Rattle.format.specs.Layout.{Col}
use Rattle.format_words.specs.declared.Described.{Described}
use Rattle.format_words.specs.Words.{refusal_to, layout_column, described_of, name_to}
use Rattle.c_interface.specs.Interface.{number_of, corner_of, counts_of, length_of, way_of, layer_of, layer_entry_of, column_of, Numbered, answers, refuses, WayNumbered, has_none, has_header, refuses_way}
use lib.ListN.{length}
use Rattle.c_interface.proofs.Rooms.{line-has-room, refusal_has_room, name-has-room}
use Rattle.c_interface.proofs.Numbered.{column_read, column-written, joined, parted, judged-sheet, judged-index, judged-sheet-lines, judged-index-lines, lines-written, plain-written, way_numbered, sheet-written, index-written, line-written, refusal_written, column-found, name-written, edited, judged_directory, directory_written, jumped, jumped_to, judged_either, jumped_either, jumped_either_to}

-- ---- what the calls answer
pub read_numbered : (column : List ℕ) → Numbered (read_alone column)
read_numbered = column_read

pub write_numbered : (column : List ℕ) (z : ℤ) → Numbered (write_alone column z).answer
write_numbered = column-written

pub join_numbered : (unit : ℕ) (whole fraction : ℤ) → Numbered (join unit whole fraction)
join_numbered = joined

pub split_numbered : (unit : ℕ) (z : ℤ) → Numbered (split unit z)
split_numbered = parted

pub sheet_numbered : (used : ℕ) (buffer : List ℕ) → Numbered (judge_sheet used buffer)
sheet_numbered = judged-sheet

pub index_numbered : (used : ℕ) (buffer : List ℕ) → Numbered (judge_index used buffer)
index_numbered = judged-index

pub sheet_lines_numbered : (used : ℕ) (buffer : List ℕ) → Numbered (judge_sheet_lines used buffer)
sheet_lines_numbered = judged-sheet-lines

pub index_lines_numbered : (used : ℕ) (buffer : List ℕ) → Numbered (judge_index_lines used buffer)
index_lines_numbered = judged-index-lines

pub to_lines_numbered : (used : ℕ) (buffer target : List ℕ) → Numbered (to_lines used buffer target).answer
to_lines_numbered = lines-written

pub from_lines_numbered : (used : ℕ) (buffer target : List ℕ) → Numbered (from_lines used buffer target).answer
from_lines_numbered = plain-written

pub up_numbered : (used : ℕ) (buffer : List ℕ) (number : ℕ) → WayNumbered (up used buffer number)
up_numbered = way_numbered

pub normal_sheet_numbered : (used : ℕ) (buffer second : List ℕ) → Numbered (normal_sheet used buffer second).answer
normal_sheet_numbered = sheet-written

pub normal_index_numbered : (used : ℕ) (buffer second : List ℕ) → Numbered (normal_index used buffer second).answer
normal_index_numbered = index-written

pub edit_numbered : (edit : Edit) (b : Buffer) → Numbered (call edit b).reply
edit_numbered = edited

pub directory_numbered : (used : ℕ) (buffer : List ℕ) → Numbered (judge_directory used buffer)
directory_numbered = judged_directory

pub append_numbered : (used : ℕ) (buffer : List ℕ) → Numbered (append_directory One used buffer).answer
append_numbered = directory_written One

pub jump_numbered : (used : ℕ) (buffer : List ℕ) (layer : ℕ) → Numbered (jump used buffer layer)
jump_numbered = jumped

pub jump-header : (used : ℕ) (buffer : List ℕ) (layer header : ℕ) → jump used buffer layer ≡ given header → 1 ≤ header
jump-header = jumped_to

pub either_numbered : (used : ℕ) (buffer : List ℕ) → Numbered (judge_either_edition used buffer)
either_numbered = judged_either

pub append_second_numbered : (used : ℕ) (buffer : List ℕ) → Numbered (append_directory Two used buffer).answer
append_second_numbered = directory_written Two

pub jump_either_numbered : (used : ℕ) (buffer : List ℕ) (layer : ℕ) → Numbered (jump_either_edition used buffer layer)
jump_either_numbered = jumped_either

pub jump_either_header : (used : ℕ) (buffer : List ℕ) (layer : ℕ) (found : LayerEntry) → jump_either_edition used buffer layer ≡ given found → 1 ≤ found.header
jump_either_header = jumped_either_to

pub report_numbered : (input out : List ℕ) → Numbered (report_to input out).answer
report_numbered = line-written

pub refusal_text_numbered : (number : ℕ) (out : List ℕ) → Numbered (refusal_to number out).answer
refusal_text_numbered = refusal_written

pub layout_column_numbered : (layout column : ℕ) → Numbered (layout_column layout column)
layout_column_numbered = column-found

pub column_name_numbered : (layout column : ℕ) (out : List ℕ) → Numbered (name_to (layout_column layout column) out).answer
column_name_numbered = name-written

-- ---- "always enough" of the header: 65, 90 and 18 bytes are ZV_LINE_BYTES, ZV_TEXT_BYTES and ZV_NAME_BYTES
pub report_has_room : (input out : List ℕ) → 65 ≤ length out → (report_to input out).answer ≡ refused 15 0 → ⊥
report_has_room = line-has-room

pub refusal_text_has_room : (number : ℕ) (out : List ℕ) → 90 ≤ length out → (refusal_to number out).answer ≡ refused 15 0 → ⊥
refusal_text_has_room = refusal_has_room

pub column-name-has-room : (layout column : ℕ) (out : List ℕ) → 18 ≤ length out → (name_to (layout_column layout column) out).answer ≡ refused 15 0 → ⊥
column-name-has-room = name-has-room

-- ---- two of these with the same struct are the same
pub number_tells : {a b : Answer ℤ} → Numbered a → Numbered b → number_of a ≡ number_of b → a ≡ b
number_tells answers answers e = ap given (ap (λ (r : ZvNumber). r.value) e)
number_tells answers (refuses {n}) e = let z : 0 ≡ suc n = ap (λ (r : ZvNumber). r.refusal) e in absurd (omega arith)
number_tells (refuses {n}) answers e = let z : suc n ≡ 0 = ap (λ (r : ZvNumber). r.refusal) e in absurd (omega arith)
number_tells refuses refuses e = ap₂ refused (ap (λ (r : ZvNumber). r.refusal) e) (ap (λ (r : ZvNumber). r.at) e)

same-corner : {w f v g : ℤ} → w ≡ v → f ≡ g → ◌≡◌ {A = Corner} (record { whole = w; fraction = f }) (record { whole = v; fraction = g })
same-corner e d = rw (e, d)

pub corner_tells : {a b : Answer Corner} → Numbered a → Numbered b → corner_of a ≡ corner_of b → a ≡ b
corner_tells answers answers e = ap given (same-corner (ap (λ (r : ZvCorner). r.whole) e) (ap (λ (r : ZvCorner). r.fraction) e))
corner_tells answers (refuses {n}) e = let z : 0 ≡ suc n = ap (λ (r : ZvCorner). r.refusal) e in absurd (omega arith)
corner_tells (refuses {n}) answers e = let z : suc n ≡ 0 = ap (λ (r : ZvCorner). r.refusal) e in absurd (omega arith)
corner_tells refuses refuses e = ap₂ refused (ap (λ (r : ZvCorner). r.refusal) e) (ap (λ (r : ZvCorner). r.at) e)

same-counts : {n m k l : ℕ} → n ≡ k → m ≡ l → ◌≡◌ {A = Counts} (record { records = n; items = m }) (record { records = k; items = l })
same-counts e d = rw (e, d)

pub counts_tell : {a b : Answer Counts} → Numbered a → Numbered b → counts_of a ≡ counts_of b → a ≡ b
counts_tell answers answers e = ap given (same-counts (ap (λ (r : ZvCounts). r.records) e) (ap (λ (r : ZvCounts). r.items) e))
counts_tell answers (refuses {n}) e = let z : 0 ≡ suc n = ap (λ (r : ZvCounts). r.refusal) e in absurd (omega arith)
counts_tell (refuses {n}) answers e = let z : suc n ≡ 0 = ap (λ (r : ZvCounts). r.refusal) e in absurd (omega arith)
counts_tell refuses refuses e = ap₂ refused (ap (λ (r : ZvCounts). r.refusal) e) (ap (λ (r : ZvCounts). r.at) e)

pub length_tells : {a b : Answer ℕ} → Numbered a → Numbered b → length_of a ≡ length_of b → a ≡ b
length_tells answers answers e = ap given (ap (λ (r : ZvLength). r.length) e)
length_tells answers (refuses {n}) e = let z : 0 ≡ suc n = ap (λ (r : ZvLength). r.refusal) e in absurd (omega arith)
length_tells (refuses {n}) answers e = let z : suc n ≡ 0 = ap (λ (r : ZvLength). r.refusal) e in absurd (omega arith)
length_tells refuses refuses e = ap₂ refused (ap (λ (r : ZvLength). r.refusal) e) (ap (λ (r : ZvLength). r.at) e)

pub way_tells : {a b : Answer Way} → WayNumbered a → WayNumbered b → way_of a ≡ way_of b → a ≡ b
way_tells has_none has_none e = refl
way_tells has_none (has_header {n}) e = let z : 0 ≡ suc n = ap (λ (r : ZvWay). r.header) e in absurd (omega arith)
way_tells has_none (refuses_way {n}) e = let z : 0 ≡ suc n = ap (λ (r : ZvWay). r.refusal) e in absurd (omega arith)
way_tells (has_header {n}) has_none e = let z : suc n ≡ 0 = ap (λ (r : ZvWay). r.header) e in absurd (omega arith)
way_tells has_header has_header e = ap given (ap₂ to_header (ap (λ (r : ZvWay). r.header) e) (ap (λ (r : ZvWay). r.passed) e))
way_tells has_header (refuses_way {n}) e = let z : 0 ≡ suc n = ap (λ (r : ZvWay). r.refusal) e in absurd (omega arith)
way_tells (refuses_way {n}) has_none e = let z : suc n ≡ 0 = ap (λ (r : ZvWay). r.refusal) e in absurd (omega arith)
way_tells (refuses_way {n}) has_header e = let z : suc n ≡ 0 = ap (λ (r : ZvWay). r.refusal) e in absurd (omega arith)
way_tells refuses_way refuses_way e = ap₂ refused (ap (λ (r : ZvWay). r.refusal) e) (ap (λ (r : ZvWay). r.at) e)

pub layer_tells : {a b : Answer ℕ} → Numbered a → Numbered b → layer_of a ≡ layer_of b → a ≡ b
layer_tells answers answers e = ap given (ap (λ (r : ZvLayer). r.header) e)
layer_tells answers (refuses {n}) e = let z : 0 ≡ suc n = ap (λ (r : ZvLayer). r.refusal) e in absurd (omega arith)
layer_tells (refuses {n}) answers e = let z : suc n ≡ 0 = ap (λ (r : ZvLayer). r.refusal) e in absurd (omega arith)
layer_tells refuses refuses e = ap₂ refused (ap (λ (r : ZvLayer). r.refusal) e) (ap (λ (r : ZvLayer). r.at) e)

same-entry : {h t l h' t' l' : ℕ} → h ≡ h' → t ≡ t' → l ≡ l' → ◌≡◌ {A = LayerEntry} (record { header = h; total = t; last = l }) (record { header = h'; total = t'; last = l' })
same-entry e f g = rw (e, f, g)

pub layer_entry_tells : {a b : Answer LayerEntry} → Numbered a → Numbered b → layer_entry_of a ≡ layer_entry_of b → a ≡ b
layer_entry_tells answers answers e = ap given (same-entry (ap (λ (r : ZvLayerEntry). r.header) e) (ap (λ (r : ZvLayerEntry). r.total) e) (ap (λ (r : ZvLayerEntry). r.last) e))
layer_entry_tells answers (refuses {n}) e = let z : 0 ≡ suc n = ap (λ (r : ZvLayerEntry). r.refusal) e in absurd (omega arith)
layer_entry_tells (refuses {n}) answers e = let z : suc n ≡ 0 = ap (λ (r : ZvLayerEntry). r.refusal) e in absurd (omega arith)
layer_entry_tells refuses refuses e = ap₂ refused (ap (λ (r : ZvLayerEntry). r.refusal) e) (ap (λ (r : ZvLayerEntry). r.at) e)

same-column : {s w l s' w' l' : ℕ} {v g v' g' : ℤ} → s ≡ s' → w ≡ w' → l ≡ l' → v ≡ v' → g ≡ g' → ◌≡◌ {A = Described} (record { start = s; width = w; letter = l; least = v; greatest = g }) (record { start = s'; width = w'; letter = l'; least = v'; greatest = g' })
same-column e f h i j = rw (e, f, h, i, j)

-- a column's struct, of all that the call tells of it
pub column_tells : {a b : Answer Col} → Numbered a → Numbered b → column_of (described_of a) ≡ column_of (described_of b) → described_of a ≡ described_of b
unfolding described_of
column_tells answers answers e =
    ap given (same-column (ap (λ (r : ZvColumn). r.start) e) (ap (λ (r : ZvColumn). r.width) e) (ap (λ (r : ZvColumn). r.content) e)
    (ap (λ (r : ZvColumn). r.least) e) (ap (λ (r : ZvColumn). r.greatest) e))
column_tells answers (refuses {n}) e = let z : 0 ≡ suc n = ap (λ (r : ZvColumn). r.refusal) e in absurd (omega arith)
column_tells (refuses {n}) answers e = let z : suc n ≡ 0 = ap (λ (r : ZvColumn). r.refusal) e in absurd (omega arith)
column_tells refuses refuses e = ap₂ refused (ap (λ (r : ZvColumn). r.refusal) e) (ap (λ (r : ZvColumn). r.at) e)
