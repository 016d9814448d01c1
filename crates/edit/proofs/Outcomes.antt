-- What a plan owes, as the calls use it. Assumes nothing.
use mathlib.Core.Path.{◌≡◌, ap, sym, ◌∙◌}
use mathlib.Core.List.{List}
use Prim.Native.Nat.{ℕ, ◌+◌, ◌-◌, ◌^◌, ◌≤◌, ◌<◌}
use native.Mathlib.Omega.{arith}
use lib.ListN.{length}
use mir.Syntax.{w64}
use mir.Val.{Fits}
use Rattle.std.specs.Prelude.{Ok, Err}
use Rattle.format.specs.Reasons.{refusal_number}
use Rattle.format.specs.declared.Refusal.{Refusal}
use Rattle.format.specs.Answers.{edited_answer}
use Rattle.format.specs.Calls.{insert, remove}
use Rattle.format.specs.Run.{call}
use Rattle.edit.specs.declared.counts.Change.{Change}
use Rattle.edit.specs.Counts.{with_counts}
use Rattle.edit.specs.Moves.{put_in, taken_out}
use Rattle.edit.specs.Plans.{Refuse, Store, stored_step, CanPut, InsertionReady, InsertionPlanned, CanTake, RemovalReady, RemovalPlanned}
use Rattle.format.specs.Answers.{step_for}

-- ---- an insertion
pub put_counted : (l m n : List ℕ) (used : ℕ) (block : List ℕ) (c : Change) → m ≡ put_in l used c.start block → n ≡ with_counts c m → n ≡ with_counts c (put_in l used c.start block)
put_counted l m n used block c moved e = e ∙ ap (with_counts c) moved

module _ (l : List ℕ) (used place : ℕ) (block : List ℕ) where
  pub insert-refused : (r : Refusal) → InsertionPlanned l used place block (Refuse (refusal_number r.reason) r.at) → step_for (Err r) used l ≡ call (insert place block) (record { bytes = l; used = used })
  unfolding InsertionPlanned step_for edited_answer
  insert-refused r owed = sym owed

  module _ (c : Change) (owed : InsertionPlanned l used place block (Store c)) where
    insert_ready : InsertionReady l used place block c
    unfolding InsertionPlanned
    insert_ready = owed

    pub can-put : CanPut l used block c
    can-put = insert_ready.can

    pub insert-fits : length l < 2 ^ 64 → Fits w64 (used + length block)
    insert-fits h = record { fits = omega (arith, insert_ready.can.room) }

    pub insert-done : (n : List ℕ) → n ≡ with_counts c (put_in l used c.start block) → step_for (Ok (used + length block)) used n ≡ call (insert place block) (record { bytes = l; used = used })
    unfolding step_for edited_answer
    insert-done n e = sym (insert_ready.outcome ∙ ap (λ (b : List ℕ). stored_step b (used + length block)) (sym e))

-- ---- a removal
pub take_counted : (l m n : List ℕ) (used : ℕ) (c : Change) → m ≡ taken_out l used c.start c.length → n ≡ with_counts c m → n ≡ with_counts c (taken_out l used c.start c.length)
take_counted l m n used c moved e = e ∙ ap (with_counts c) moved

module _ (l : List ℕ) (used place : ℕ) where
  pub remove-refused : (r : Refusal) → RemovalPlanned l used place (Refuse (refusal_number r.reason) r.at) → step_for (Err r) used l ≡ call (remove place) (record { bytes = l; used = used })
  unfolding RemovalPlanned step_for edited_answer
  remove-refused r owed = sym owed

  module _ (c : Change) (owed : RemovalPlanned l used place (Store c)) where
    remove_ready : RemovalReady l used place c
    unfolding RemovalPlanned
    remove_ready = owed

    pub can-take : CanTake l used c
    can-take = remove_ready.can

    pub remove_less : c.length ≤ used
    remove_less = omega (arith, remove_ready.can.inside)

    pub remove-done : (n : List ℕ) → n ≡ with_counts c (taken_out l used c.start c.length) → step_for (Ok (used - c.length)) used n ≡ call (remove place) (record { bytes = l; used = used })
    unfolding step_for edited_answer
    remove-done n e = sym (remove_ready.outcome ∙ ap (λ (b : List ℕ). stored_step b (used - c.length)) (sym e))
