-- The loop of `walk_item`: its invariant, and what it ensures at each way out. Assumes nothing.
use Rattle.std.specs.Prelude.{Err}
use mathlib.Core.Path.{◌≡◌, refl, sym, ◌∙◌}
use mathlib.Core.List.{List}
use Prim.Native.Nat.{ℕ, suc, ◌+◌, ◌-◌, ◌≤◌, ◌<◌}
use native.Mathlib.Omega.{arith}
use native.Mathlib.Numerals.{add-one}
use Rattle.format.specs.Basics.{fault}
use Rattle.format.specs.Reasons.{refusal_number, refusal_for}
use Rattle.format.specs.declared.Reason.{Reason}
use Rattle.format.specs.declared.Reason.TheVariants.{MissingRecord}
use Rattle.format.specs.declared.Refusal.{Refusal}
use Rattle.format.specs.Record.{view}
use Rattle.records.specs.Entry.{to_data, data_fault_of}
use Rattle.records.specs.declared.Held.{Held}
use Rattle.records.proofs.Laws.{data_fault_at}
use Rattle.format.specs.Judge.{walk}
use Rattle.judge.specs.declared.body_records.Extent.{Extent}
use Rattle.judge.specs.Walks.{ExtentOf, record_at, views_from, Through, Item, walked_said, passed_of}
use Rattle.format.proofs.Reasons.{not_zero}
use Rattle.judge.proofs.Steps.{wide_at, views_more, views_end, through_none, through_one, through_more, data_wrong, data_missing}

-- of the data records of the item at record k, `left` are left from record `at` on
pub record Walking (file : List ℕ) (x : Extent) (k due : ℕ) (held : Held) (at left : ℕ) : Type 0 where
  pub start : k < at
  pub within : at ≤ x.records
  pub through : Through (to_data held) (suc k) due (suc (suc k)) (views_from file x (k + 1)) left (suc at) (views_from file x at)

pub walking : (file : List ℕ) (x : Extent) (k due : ℕ) (held : Held) (at : ℕ) → k < x.records → at ≡ k + 1 → Walking file x k due held at due
walking file x k due held at h e = rw e (first_due file x k due held h)
  where
    first_due : (file : List ℕ) (x : Extent) (k due : ℕ) (held : Held) → k < x.records → Walking file x k due held (k + 1) due
    first_due file x k due held h = record { start = omega arith; within = omega arith; through = rw (add-one k) (through_none (to_data held) (suc k) due (suc (suc k)) (views_from file x (suc k))) }

module _ (file : List ℕ) (x : Extent) (k due : ℕ) (held : Held) (at left : ℕ) (g : Walking file x k due held at left) where
  fails-at : (r : Refusal) → ((opened : ℕ) → walk opened left (to_data held) (suc k) (suc at) (views_from file x at) ≡ fault (refusal_number r.reason) r.at) → Item file x k due (to_data held) (walked_said (Err r))
  fails-at r e = record {
    fails = λ h opened. g.through.same opened ∙ e opened;
    passes = λ z. absurd (not_zero r.reason z);
    start = λ z. absurd (not_zero r.reason z);
    within = λ z. absurd (not_zero r.reason z);
  }

  done : left ≡ 0 → Item file x k due (to_data held) (passed_of at)
  done e = record {
    fails = λ ne. absurd (ne refl);
    passes = λ z. rw e at g.through;
    start = λ z. g.start;
    within = λ z. g.within;
  }

  pub item-done : left ≤ 0 → Item file x k due (to_data held) (passed_of at)
  item-done h = done (omega arith)

  module _ (some : 0 < left) where
    pub item-missing : ExtentOf file x → (r : Refusal) → x.records ≤ at → r ≡ refusal_for MissingRecord (k + 1) → Item file x k due (to_data held) (walked_said (Err r))
    item-missing extent_of r h e = rw e (fails-at (refusal_for MissingRecord (k + 1)) (λ opened. rw (views_end file x extent_of at h, add-one k) (data_missing opened left (to_data held) (suc k) (suc at) some)))

    module _ (extent_of : ExtentOf file x) (here : at < x.records) (number : ℕ) (of : number ≡ data_fault_of (record_at file x at) held (left - 1)) where
      asked : (view (record_at file x at)).fault_as_data (to_data held) (left - 1) ≡ number
      asked = data_fault_at (record_at file x at) (wide_at file x extent_of at here) held (left - 1) ∙ sym of

      pub item-wrong : (r : Refusal) (reason : Reason) → number ≡ refusal_number reason → r ≡ refusal_for reason (at + 1) → Item file x k due (to_data held) (walked_said (Err r))
      item-wrong r reason n e = rw e (fails-at (refusal_for reason (at + 1)) (λ opened. rw (views_more file x extent_of at here, add-one at) (data_wrong (to_data held) (suc k) (view (record_at file x at)) (views_from file x (suc at)) (suc at) left some opened (refusal_number reason) (asked ∙ n) (not_zero reason))))

      one_more : number ≡ 0 → Walking file x k due held (at + 1) (left - 1)
      one_more z = record {
        start = omega (arith, g.start);
        within = omega arith;
        through = through_more (to_data held) (suc k) due (suc (suc k)) left (suc at) (left - 1) (suc (at + 1)) _ (views_from file x at) _ g.through (rw (views_more file x extent_of at here, add-one at) (through_one (to_data held) (suc k) (view (record_at file x at)) (views_from file x (suc at)) (suc at) left some (asked ∙ z)));
      }

      pub item-more : (next : ℕ) → number ≡ 0 → next ≡ at + 1 → Walking file x k due held next (left - 1)
      item-more next z e = rw e (one_more z)
