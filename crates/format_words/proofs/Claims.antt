-- Claims: what the code answers of a column and the paper's answers are one to one. Assumes nothing.
use mathlib.Core.Path.{◌≡◌, ap}
use Rattle.std.specs.Prelude.{Result, Ok, Err}
use Rattle.format.specs.declared.Refusal.{Refusal}
use Rattle.format.proofs.ClaimsAnswers.{refusal_one_to_one}
use Rattle.format_words.specs.declared.Described.{Described}
use Rattle.format_words.specs.Words.{described_answer}

pub described_one_to_one : (a b : Result Described Refusal) → described_answer a ≡ described_answer b → a ≡ b
unfolding described_answer
described_one_to_one (Ok d) (Ok e) h = cc
described_one_to_one (Ok d) (Err r) h = cc
described_one_to_one (Err r) (Ok d) h = cc
described_one_to_one (Err r) (Err s) h = ap Err (refusal_one_to_one r s h)
