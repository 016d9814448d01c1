-- Claims: what the code answers of an opened sheet, and its definitions' answers, are one to one. Assumes nothing.
use mathlib.Core.Path.{◌≡◌, refl, ap, sym}
use Rattle.std.specs.Prelude.{ℕ, Option, Some, None, Result, Ok, Err}
use Rattle.format.specs.declared.Refusal.{Refusal}
use Rattle.format.proofs.Reasons.{not_zero}
use Rattle.part_and_index.proofs.Claims.{same_refusal}
use Rattle.judge.specs.declared.Sheet as DeclaredSheet
use Rattle.judge.specs.declared.ListedSheet as DeclaredListed
use Rattle.judge.specs.Sheet.{Sheet, sheet_said}
use Rattle.judge.specs.Listed.{ListedSheet, unlisted_said, listed_said}

pub sheet_one_to_one : (a b : Result DeclaredSheet.Sheet Refusal) → sheet_said a ≡ sheet_said b → a ≡ b
sheet_one_to_one (Ok s) (Ok t) h =
    let items : s.items ≡ t.items = ap (λ (x : Sheet). x.items) h in
    let part : s.part ≡ t.part = ap (λ (x : Sheet). x.part) h in
    let unit : s.unit ≡ t.unit = ap (λ (x : Sheet). x.unit) h in
    let corners : s.corners ≡ t.corners = ap (λ (x : Sheet). x.corners) h in
    let due : s.due ≡ t.due = ap (λ (x : Sheet). x.due) h in
    let open_level : s.open_level ≡ t.open_level = ap (λ (x : Sheet). x.open_level) h in
    let start : s.start ≡ t.start = ap (λ (x : Sheet). x.start) h in
    let headers : s.headers ≡ t.headers = ap (λ (x : Sheet). x.headers) h in
    λ i. Ok (record { items = items i; part = part i; unit = unit i; corners = corners i; due = due i; open_level = open_level i; start = start i; headers = headers i })
sheet_one_to_one (Ok s) (Err r) h = absurd (not_zero r.reason (sym (ap (λ (x : Sheet). x.fault) h)))
sheet_one_to_one (Err r) (Ok s) h = absurd (not_zero r.reason (ap (λ (x : Sheet). x.fault) h))
sheet_one_to_one (Err r) (Err s) h = ap Err (same_refusal r s (ap (λ (x : Sheet). x.fault) h) (ap (λ (x : Sheet). x.at) h))

unlisted_one_to_one : (a b : Option ℕ) → unlisted_said a ≡ unlisted_said b → a ≡ b
unlisted_one_to_one None None h = refl
unlisted_one_to_one None (Some n) h = cc
unlisted_one_to_one (Some n) None h = cc
unlisted_one_to_one (Some n) (Some m) h = cc

pub listed_one_to_one : (a b : Result DeclaredListed.ListedSheet Refusal) → listed_said a ≡ listed_said b → a ≡ b
listed_one_to_one (Ok s) (Ok t) h =
    let items : s.items ≡ t.items = ap (λ (x : ListedSheet). x.items) h in
    let part : s.part ≡ t.part = ap (λ (x : ListedSheet). x.part) h in
    let layers : s.layers ≡ t.layers = ap (λ (x : ListedSheet). x.layers) h in
    let unlisted : s.unlisted ≡ t.unlisted = unlisted_one_to_one s.unlisted t.unlisted (ap (λ (x : ListedSheet). x.unlisted) h) in
    let first_numbers : s.first_numbers ≡ t.first_numbers = ap (λ (x : ListedSheet). x.first_numbers) h in
    λ i. Ok (record { items = items i; part = part i; layers = layers i; unlisted = unlisted i; first_numbers = first_numbers i })
listed_one_to_one (Ok s) (Err r) h = absurd (not_zero r.reason (sym (ap (λ (x : ListedSheet). x.fault) h)))
listed_one_to_one (Err r) (Ok s) h = absurd (not_zero r.reason (ap (λ (x : ListedSheet). x.fault) h))
listed_one_to_one (Err r) (Err s) h = ap Err (same_refusal r s (ap (λ (x : ListedSheet). x.fault) h) (ap (λ (x : ListedSheet). x.at) h))
