-- The body of a layer: where it ends, how many items it has, and what stands behind it. Assumes nothing.
use mathlib.Core.Path.{◌≡◌, refl, ap, sym, ◌∙◌}
use mathlib.Core.Bool.{Bool, true, false, cond}
use mathlib.Core.List.{List, [], ◌∷◌, ◌++◌}
use Prim.Native.Nat.{ℕ, zero, suc, ◌+◌}
use native.Mathlib.Nat.{add-zero}
use native.Mathlib.Omega.{arith}
use lib.Dec.{eqb}
use lib.ListN.{length, drop}
use Rattle.format.specs.Record.{is_head, View}
use Rattle.format.specs.Judge.{due_after, headers_and_items, is_header_at, one_if_item, items}
use Rattle.format.proofs.Basics.{and-true}
use Rattle.format.proofs.Above.{data_records-head}
use Rattle.format_directory.specs.Directory.{Layer, layer_body, layers_from, total_of, last_of}
use Rattle.format_directory.specs.DirectoryChecks.{totals}
use Rattle.format_directory.proofs.DirectoryLayers.{one_more, entries}

-- ---- a body ends where the first layer behind it begins, or at the end of the records
abbrev pub first_header : (end : ℕ) → List Layer → ℕ
first_header end [] = end
first_header end (l ∷ ls) = l.header

pub body_ends : (n i : ℕ) (rs : List View) → i + length (layer_body n rs) ≡ first_header (i + length rs) (layers_from n i rs)
body_ends n i [] = refl
body_ends zero i (r ∷ rs) = go (is_header_at 1 r) (body_ends (due_after 0 r) (suc i) rs)
  where
    go : (t : Bool) → suc i + length (layer_body (due_after 0 r) rs) ≡ first_header (suc i + length rs) (layers_from (due_after 0 r) (suc i) rs) → i + length (cond t [] (r ∷ layer_body (due_after 0 r) rs)) ≡ first_header (i + suc (length rs)) (cond t (record { header = i; body = layer_body 0 rs } ∷ []) [] ++ layers_from (due_after 0 r) (suc i) rs)
    go true ih = add-zero i
    go false ih = sym (one_more i (length (layer_body (due_after 0 r) rs))) ∙ ih ∙ ap (λ (j : ℕ). first_header j (layers_from (due_after 0 r) (suc i) rs)) (one_more i (length rs))
body_ends (suc n) i (r ∷ rs) = sym (one_more i (length (layer_body n rs))) ∙ body_ends n (suc i) rs ∙ ap (λ (j : ℕ). first_header j (layers_from n (suc i) rs)) (one_more i (length rs))

-- the layers behind a body are all there are
pub layers-behind : (n i : ℕ) (rs : List View) → layers_from n i rs ≡ layers_from 0 (i + length (layer_body n rs)) (drop (length (layer_body n rs)) rs)
layers-behind n i [] = refl
layers-behind zero i (r ∷ rs) = go (is_header_at 1 r) refl (layers-behind (due_after 0 r) (suc i) rs)
  where
    go : (t : Bool) → is_header_at 1 r ≡ t → layers_from (due_after 0 r) (suc i) rs ≡ layers_from 0 (suc i + length (layer_body (due_after 0 r) rs)) (drop (length (layer_body (due_after 0 r) rs)) rs) → layers_from 0 i (r ∷ rs) ≡ layers_from 0 (i + length (cond t [] (r ∷ layer_body (due_after 0 r) rs))) (drop (length (cond t [] (r ∷ layer_body (due_after 0 r) rs))) (r ∷ rs))
    go true e ih = ap (λ (j : ℕ). layers_from 0 j (r ∷ rs)) (sym (add-zero i))
    go false e ih = ap (λ (t : Bool). cond t (record { header = i; body = layer_body 0 rs } ∷ []) [] ++ layers_from (due_after 0 r) (suc i) rs) e ∙ ih ∙ ap (λ (j : ℕ). layers_from 0 j (drop (length (layer_body (due_after 0 r) rs)) rs)) (one_more i (length (layer_body (due_after 0 r) rs)))
layers-behind (suc n) i (r ∷ rs) = layers-behind n (suc i) rs ∙ ap (λ (j : ℕ). layers_from 0 j (drop (length (layer_body n rs)) rs)) (one_more i (length (layer_body n rs)))

-- ---- items: those of all layers, and those before the first
header_no_item : (r : View) → is_header_at 1 r ≡ true → one_if_item r.kind ≡ 0
header_no_item r e = ap (λ (t : Bool). cond t 0 1) (and-true (is_head r.kind) (eqb r.level 1) e).0

pub totals-all : (n i : ℕ) (rs : List View) → totals (entries (layers_from n i rs)) + items (headers_and_items n (layer_body n rs)) ≡ items (headers_and_items n rs)
unfolding total_of
totals-all n i [] = refl
totals-all zero i (r ∷ rs) = go (is_header_at 1 r) refl (totals-all (due_after 0 r) (suc i) rs)
  where
    go : (t : Bool) → is_header_at 1 r ≡ t → totals (entries (layers_from (due_after 0 r) (suc i) rs)) + items (headers_and_items (due_after 0 r) (layer_body (due_after 0 r) rs)) ≡ items (headers_and_items (due_after 0 r) rs) → totals (entries (cond t (record { header = i; body = layer_body 0 rs } ∷ []) [] ++ layers_from (due_after 0 r) (suc i) rs)) + items (headers_and_items 0 (cond t [] (r ∷ layer_body (due_after 0 r) rs))) ≡ one_if_item r.kind + items (headers_and_items (due_after 0 r) rs)
    go true e ih = let h : items (headers_and_items 0 (layer_body 0 rs)) + totals (entries (layers_from (due_after 0 r) (suc i) rs)) + 0 ≡ one_if_item r.kind + items (headers_and_items (due_after 0 r) rs) = omega (arith, header_no_item r e, ih, same_body) in h
      where
        same_body : items (headers_and_items (due_after 0 r) (layer_body (due_after 0 r) rs)) ≡ items (headers_and_items 0 (layer_body 0 rs))
        same_body = ap (λ (d : ℕ). items (headers_and_items d (layer_body d rs))) (data_records-head r (and-true (is_head r.kind) (eqb r.level 1) e).0)
    go false e ih = let h : totals (entries (layers_from (due_after 0 r) (suc i) rs)) + (one_if_item r.kind + items (headers_and_items (due_after 0 r) (layer_body (due_after 0 r) rs))) ≡ one_if_item r.kind + items (headers_and_items (due_after 0 r) rs) = omega (arith, ih) in h
totals-all (suc n) i (r ∷ rs) = totals-all n (suc i) rs

-- ---- a layer with a body among rs, where the layers from rs on are those from rs' on, at which one begins or which are none
module _ (i : ℕ) (rs : List View) (i' : ℕ) (rs' : List View) (same-layers : layers_from 0 (suc i) rs ≡ layers_from 0 i' rs') (None-first : layer_body 0 rs' ≡ []) (same_end : suc i + length rs ≡ i' + length rs') where
  abbrev own : Layer
  own = record { header = i; body = layer_body 0 rs }

  pub layer-last : suc (last_of own) ≡ i'
  unfolding last_of
  layer-last =
      (let q : suc (i + length (layer_body 0 rs)) ≡ suc i + length (layer_body 0 rs) = omega arith in q)
      ∙ body_ends 0 (suc i) rs
      ∙ (ap (λ (n : ℕ). first_header n (layers_from 0 (suc i) rs)) same_end ∙ ap (first_header (i' + length rs')) same-layers)
      ∙ sym (body_ends 0 i' rs')
      ∙ (ap (λ (l : List View). i' + length l) None-first ∙ add-zero i')

  pub layer-total : items (headers_and_items 0 rs) ≡ total_of own + items (headers_and_items 0 rs')
  unfolding total_of
  layer-total = omega (arith, totals-all 0 (suc i) rs, totals-all 0 i' rs', ap (λ (ls : List Layer). totals (entries ls)) same-layers, ap (λ (l : List View). items (headers_and_items 0 l)) None-first)
