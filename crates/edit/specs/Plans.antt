-- What a plan starts from, what it says, and what it owes to the call that stores it. Private functions alone cite these. Assumes nothing.
use Rattle.std.specs.Prelude.{◌≡◌, Result, Ok, Err, Option, Some, None, Bool, ◌&&◌, List, [], ℕ, suc, ◌+◌, ◌-◌, ◌/◌, ◌≤◌, ◌<◌, leb, ltb, eqb, length, get_or}
use Rattle.format.specs.Basics.{given, refused, first, unless, chunks}
use Rattle.format.specs.Layout.{number_at, header}
use Rattle.format.specs.Record.{count_in}
use Rattle.format.specs.Edit.{has_room}
use Rattle.format.specs.Calls.{insert, remove}
use Rattle.format.specs.Run.{Step, call}
use Rattle.format.specs.Reasons.{refusal_number}
use Rattle.format.specs.declared.Reason.{Reason}
use Rattle.format.specs.declared.Refusal.{Refusal}
use Rattle.records.specs.Entry.{entry_said}
use Rattle.records.specs.Entry as Read
use Rattle.records.specs.declared.items.Entry.{Entry}
use Rattle.judge.specs.declared.Sheet.{Sheet}
use Rattle.edit.specs.declared.counts.Change.{Change}
use Rattle.edit.specs.declared.plans.Above.{Above}
use Rattle.edit.specs.Counts.{Fitting, with_counts}
use Rattle.edit.specs.Moves.{put_in, taken_out}

-- ---- the refusals of an accepted sheet

-- "edit place is no item or header start, nor (insertion) one past the end": behind the sheet part, `last` at most, and no data record due there
unfoldable pub is_place : (part last due place : ℕ) → Bool
is_place part last due place = ltb part place && leb place last && eqb due 0

-- "block level above the open level plus 1 at that place, or below the level of the record now there"
unfoldable pub nests_in : (open_level level next : ℕ) → Bool
nests_in open_level level next = leb level (suc open_level) && leb next level

-- 14, then 15: "a buffer is too short for the result", with so many bytes free in it
unfoldable pub room_fault : Above → (kind records limit free length : ℕ) → ℕ
room_fault above kind records limit free length = first (unless (has_room above.total kind above.count records limit) 14) (unless (leb length free) 15)

-- ---- what stands at a place: a header or an item by its record, or none, whose level is 0
abbrev pub EntryFound : Option Entry → Read.Entry → Type 0
EntryFound (Some e) read = entry_said (Ok e) ≡ read
EntryFound None read = (read.fault ≡ 0 → ⊥) × (read.level ≡ 0)

-- ---- the header above an item

-- its level has one among the last headers of the levels, and that stands in the file
pub record HasAbove (file : List ℕ) (sheet : Sheet) (level kind : ℕ) : Type 0 where
  pub level-low : 1 ≤ level
  pub level-high : level - 1 < 9
  pub header-low : 1 ≤ get_or sheet.headers (level - 1) 0
  pub header-high : get_or sheet.headers (level - 1) 0 ≤ length file / 84
  pub kind-most : kind ≤ 9

abbrev pub header_record : (file : List ℕ) → Sheet → (level : ℕ) → List ℕ
header_record file sheet level = get_or (chunks (length file / 84) file) (get_or sheet.headers (level - 1) 0 - 1) []

-- as it was read
pub record AboveRead (file : List ℕ) (sheet : Sheet) (level kind : ℕ) (above : Above) : Type 0 where
  pub index_is : above.header ≡ get_or sheet.headers (level - 1) 0 - 1
  pub total_is : above.total ≡ number_at header "total" (header_record file sheet level)
  pub count_is : above.count ≡ count_in (header_record file sheet level) kind
  pub total-small : above.total < 100000
  pub count_small : above.count < 100000

-- ---- what a plan says: a refusal's number and record, or what to store
pub data Plan : Type 0 where
  Refuse : (number at : ℕ) → Plan
  Store : Change → Plan

-- the same as the code has it, and of an accepted sheet, where a refusal is at record 0
abbrev pub planned : Result Change Refusal → Plan
planned (Ok c) = Store c
planned (Err r) = Refuse (refusal_number r.reason) r.at

abbrev pub planned_there : Result Change Reason → Plan
planned_there (Ok c) = Store c
planned_there (Err reason) = Refuse (refusal_number reason) 0

-- a refusal leaves all as it was
abbrev pub refused_step : (bytes : List ℕ) → (used number at : ℕ) → Step
refused_step bytes used number at = record { reply = refused number at; buffer = record { bytes = bytes; used = used } }

abbrev pub stored_step : (bytes : List ℕ) → (used : ℕ) → Step
stored_step bytes used = record { reply = given used; buffer = record { bytes = bytes; used = used } }

-- ---- an insertion

-- it can be stored
pub record CanPut (bytes : List ℕ) (used : ℕ) (block : List ℕ) (c : Change) : Type 0 where
  pub inside : c.start ≤ used
  pub room : used + length block ≤ length bytes
  pub fitting : Fitting c (length bytes)

pub record InsertionReady (bytes : List ℕ) (used place : ℕ) (block : List ℕ) (c : Change) : Type 0 where
  pub can : CanPut bytes used block c
  pub outcome : call (insert place block) (record { bytes = bytes; used = used }) ≡ stored_step (with_counts c (put_in bytes used c.start block)) (used + length block)

unfoldable pub InsertionPlanned : (bytes : List ℕ) → (used place : ℕ) → (block : List ℕ) → Plan → Type 0
InsertionPlanned bytes used place block (Refuse number at) = call (insert place block) (record { bytes = bytes; used = used }) ≡ refused_step bytes used number at
InsertionPlanned bytes used place block (Store c) = InsertionReady bytes used place block c

-- ---- a removal

-- it can be stored
pub record CanTake (bytes : List ℕ) (used : ℕ) (c : Change) : Type 0 where
  pub inside : c.start + c.length ≤ used
  pub room : used ≤ length bytes
  pub fitting : Fitting c (length bytes)

pub record RemovalReady (bytes : List ℕ) (used place : ℕ) (c : Change) : Type 0 where
  pub can : CanTake bytes used c
  pub outcome : call (remove place) (record { bytes = bytes; used = used }) ≡ stored_step (with_counts c (taken_out bytes used c.start c.length)) (used - c.length)

unfoldable pub RemovalPlanned : (bytes : List ℕ) → (used place : ℕ) → Plan → Type 0
RemovalPlanned bytes used place (Refuse number at) = call (remove place) (record { bytes = bytes; used = used }) ≡ refused_step bytes used number at
RemovalPlanned bytes used place (Store c) = RemovalReady bytes used place c
