-- Answers as the structs of numbers that C sees: the values of an accepted call, or number and record of its refusal. Assumes nothing.
use Rattle.std.specs.Prelude.{List, ℕ, suc, ◌+◌, ◌*◌, ℤ, pos}
use Rattle.format.specs.Basics.{Answer, given, refused, Outcome}
use Rattle.format.specs.Corner.{Corner}
use Rattle.format.specs.Judge.{Counts}
use Rattle.format.specs.Above.{Way, no_header, to_header}
use Rattle.format.specs.Run.{Step}
use Rattle.format_directory.specs.Directory.{LayerEntry}
use Rattle.format_words.specs.declared.Described.{Described}
use Rattle.c_interface.specs.declared.ZvWay.{ZvWay}
use Rattle.c_interface.specs.declared.ZvNumber.{ZvNumber}
use Rattle.c_interface.specs.declared.ZvCorner.{ZvCorner}
use Rattle.c_interface.specs.declared.ZvCounts.{ZvCounts}
use Rattle.c_interface.specs.declared.ZvLength.{ZvLength}
use Rattle.c_interface.specs.declared.ZvLayer.{ZvLayer}
use Rattle.c_interface.specs.declared.ZvLayerEntry.{ZvLayerEntry}
use Rattle.c_interface.specs.declared.ZvColumn.{ZvColumn}

-- 0.5.0: 10,000 times the major number, 100 times the minor one, and the patch
unfoldable pub version : ℕ
version = 0 * 10000 + 5 * 100 + 0

abbrev pub number_of : Answer ℤ → ZvNumber
number_of (given z) = record { refusal = 0; at = 0; value = z }
number_of (refused number at) = record { refusal = number; at = at; value = pos 0 }

abbrev pub corner_of : Answer Corner → ZvCorner
corner_of (given c) = record { refusal = 0; at = 0; whole = c.whole; fraction = c.fraction }
corner_of (refused number at) = record { refusal = number; at = at; whole = pos 0; fraction = pos 0 }

abbrev pub counts_of : Answer Counts → ZvCounts
counts_of (given c) = record { refusal = 0; at = 0; records = c.records; items = c.items }
counts_of (refused number at) = record { refusal = number; at = at; records = 0; items = 0 }

abbrev pub length_of : Answer ℕ → ZvLength
length_of (given n) = record { refusal = 0; at = 0; length = n }
length_of (refused number at) = record { refusal = number; at = at; length = 0 }

-- "For a layer header: none, 0": no header has record number 0
abbrev pub way_of : Answer Way → ZvWay
way_of (given no_header) = record { refusal = 0; at = 0; header = 0; passed = 0 }
way_of (given (to_header number passed)) = record { refusal = 0; at = 0; header = number; passed = passed }
way_of (refused number at) = record { refusal = number; at = at; header = 0; passed = 0 }

abbrev pub layer_of : Answer ℕ → ZvLayer
layer_of (given n) = record { refusal = 0; at = 0; header = n }
layer_of (refused number at) = record { refusal = number; at = at; header = 0 }

abbrev pub layer_entry_of : Answer LayerEntry → ZvLayerEntry
layer_entry_of (given l) = record { refusal = 0; at = 0; header = l.header; total = l.total; last = l.last }
layer_entry_of (refused number at) = record { refusal = number; at = at; header = 0; total = 0; last = 0 }

abbrev pub column_of : Answer Described → ZvColumn
column_of (given d) =
    record { refusal = 0; at = 0; start = d.start; width = d.width; content = d.letter; least = d.least; greatest = d.greatest }
column_of (refused number at) =
    record { refusal = number; at = at; start = 0; width = 0; content = 0; least = pos 0; greatest = pos 0 }

-- a call that writes: its answer, and all bytes of the lent buffer afterwards
pub record Wrote : Type 0 where
  pub result : ZvLength
  pub bytes : List ℕ

abbrev pub wrote_of : Outcome ℕ → Wrote
wrote_of o = record { result = length_of o.answer; bytes = o.bytes }

-- an edit: its answer, and all bytes of the lent buffer afterwards
abbrev pub edited_of : Step → Wrote
edited_of s = record { result = length_of s.reply; bytes = s.buffer.bytes }

-- ---- A struct says no less than its answer where `refusal` is 0 for no refusal and `header` is 0 for no header. That this is so of every answer of every call,
-- and that the structs then tell their answers apart, is in proofs/ClaimsInterface.antt

-- a refusal's number is at least 1
pub data Numbered {A : Type 0} : Answer A → Type 0 where
  answers : {a : A} → Numbered (given a)
  refuses : {n at : ℕ} → Numbered (refused (suc n) at)

-- and so is the number of a header
pub data WayNumbered : Answer Way → Type 0 where
  has_none : WayNumbered (given no_header)
  has_header : {n passed : ℕ} → WayNumbered (given (to_header (suc n) passed))
  refuses_way : {n at : ℕ} → WayNumbered (refused (suc n) at)
