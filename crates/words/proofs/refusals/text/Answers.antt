-- `words::refusals::text` meets its contract: word by word, computed. Assumes nothing.
use Rattle.std.proofs.Common.{refl}
use Rattle.format.specs.Text.{bytes}
use Rattle.format_words.specs.Words.{entry, refusals, edition_words, refusal_words, refusal_to}
use Rattle.words.proofs.refusals.text.Goals as goal

pub returns-in-Length : goal.returns-in-Length
unfolding entry refusals edition_words refusal_words refusal_to bytes
returns-in-Length c = λ out. rw c.in-Length.is refl

pub returns-in-FileType : goal.returns-in-FileType
unfolding entry refusals edition_words refusal_words refusal_to bytes
returns-in-FileType c = λ out. rw c.in-FileType.is refl

pub returns-in-MissingRecord : goal.returns-in-MissingRecord
unfolding entry refusals edition_words refusal_words refusal_to bytes
returns-in-MissingRecord c = λ out. rw c.in-MissingRecord.is refl

pub returns-in-RecordType : goal.returns-in-RecordType
unfolding entry refusals edition_words refusal_words refusal_to bytes
returns-in-RecordType c = λ out. rw c.in-RecordType.is refl

pub returns-in-Malformed : goal.returns-in-Malformed
unfolding entry refusals edition_words refusal_words refusal_to bytes
returns-in-Malformed c = λ out. rw c.in-Malformed.is refl

pub returns-in-OutsideRange : goal.returns-in-OutsideRange
unfolding entry refusals edition_words refusal_words refusal_to bytes
returns-in-OutsideRange c = λ out. rw c.in-OutsideRange.is refl

pub returns-in-Level : goal.returns-in-Level
unfolding entry refusals edition_words refusal_words refusal_to bytes
returns-in-Level c = λ out. rw c.in-Level.is refl

pub returns-in-DataRule : goal.returns-in-DataRule
unfolding entry refusals edition_words refusal_words refusal_to bytes
returns-in-DataRule c = λ out. rw c.in-DataRule.is refl

pub returns-in-Fraction : goal.returns-in-Fraction
unfolding entry refusals edition_words refusal_words refusal_to bytes
returns-in-Fraction c = λ out. rw c.in-Fraction.is refl

pub returns-in-Count : goal.returns-in-Count
unfolding entry refusals edition_words refusal_words refusal_to bytes
returns-in-Count c = λ out. rw c.in-Count.is refl

pub returns-in-Place : goal.returns-in-Place
unfolding entry refusals edition_words refusal_words refusal_to bytes
returns-in-Place c = λ out. rw c.in-Place.is refl

pub returns-in-Block : goal.returns-in-Block
unfolding entry refusals edition_words refusal_words refusal_to bytes
returns-in-Block c = λ out. rw c.in-Block.is refl

pub returns-in-BlockLevel : goal.returns-in-BlockLevel
unfolding entry refusals edition_words refusal_words refusal_to bytes
returns-in-BlockLevel c = λ out. rw c.in-BlockLevel.is refl

pub returns-in-Limit : goal.returns-in-Limit
unfolding entry refusals edition_words refusal_words refusal_to bytes
returns-in-Limit c = λ out. rw c.in-Limit.is refl

pub returns-in-Room : goal.returns-in-Room
unfolding entry refusals edition_words refusal_words refusal_to bytes
returns-in-Room c = λ out. rw c.in-Room.is refl

pub returns-in-Number : goal.returns-in-Number
unfolding entry refusals edition_words refusal_words refusal_to bytes
returns-in-Number c = λ out. rw c.in-Number.is refl

pub returns-in-RecordNumber : goal.returns-in-RecordNumber
unfolding entry refusals edition_words refusal_words refusal_to bytes
returns-in-RecordNumber c = λ out. rw c.in-RecordNumber.is refl

pub returns-in-LineEnd : goal.returns-in-LineEnd
unfolding entry refusals edition_words refusal_words refusal_to bytes
returns-in-LineEnd c = λ out. rw c.in-LineEnd.is refl

pub returns-in-Directory : goal.returns-in-Directory
unfolding entry refusals edition_words refusal_words refusal_to bytes
returns-in-Directory c = λ out. rw c.in-Directory.is refl

pub returns-in-Edition : goal.returns-in-Edition
unfolding entry refusals edition_words refusal_words refusal_to bytes
returns-in-Edition c = λ out. rw c.in-Edition.is refl
