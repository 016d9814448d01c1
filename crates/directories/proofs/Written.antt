-- The right directory written record by record, in the code's own words: where the layers are, what a row holds, and what stands in the buffer. Assumes nothing.
use mathlib.Core.Path.{◌≡◌, refl, ap, ap₂, sym, subst, ◌∙◌}
use mathlib.Core.Bool.{Bool, true, false, cond, ◌&&◌}
use mathlib.Core.List.{List, [], ◌∷◌, ◌++◌, append_assoc, append-nil, map}
use Prim.Native.Nat.{ℕ, zero, suc, ◌+◌, ◌-◌, ◌*◌, ◌^◌, ◌≤◌, ◌<◌}
use native.Mathlib.Nat.{zero-add, add-zero}
use native.Mathlib.Numerals.{add-one}
use native.Mathlib.Omega.{arith}
use mir.Syntax.{w64}
use mir.Val.{Fits, to_z, of_z}
use borrow.Author.Tests.{ltb-true, ltb-false}
use lib.Dec.{eqb, ltb}
use lib.IntN.{pos}
use lib.ListN.{length, length-append, length-drop, length-map, take, drop, get_or, replicate, length-replicate, drop_of_length-le, get_or-append}
use lib.Seq.{drop-drop, drop-cons, drop_at, take_at, take-suc, take_all, length-take-le, get_or-drop, get_or-append-add}
use Rattle.format.specs.Text.{bytes}
use Rattle.format.specs.Column.{written}
use Rattle.format.specs.Layout.{splice}
use Rattle.format.specs.Record.{View, view, is_head}
use Rattle.format.specs.Judge.{due_after, headers_and_items, is_header_at, items}
use Rattle.format.proofs.Basics.{and-true}
use Rattle.columns.specs.InRecord.{write_at}
use Rattle.columns.proofs.Laws.{number-written}
use Rattle.files.specs.declared.Stride.TheVariants.{Plain}
use Rattle.files.specs.Records.{records_of}
use Rattle.files.specs.Records.{stride_of}
use Rattle.files.proofs.Records.{record_wide, record_inside}
use Rattle.records.specs.Outline.{Outline}
use Rattle.records.specs.Outline.{outline_of}
use Rattle.records.proofs.Outlined.{outline_head, outline_layer, outline_data_records, outline_data_records_most}
use Rattle.format_directory.specs.declared.Edition.{Edition}
use Rattle.format_directory.specs.declared.Edition.TheVariants.{One, Two}
use Rattle.directory_columns.specs.declared.LayerNumbers.{LayerNumbers}
use Rattle.directory_columns.specs.Numbers.{listed_of}
use Rattle.judge.specs.Listed.{first_numbers, kept_layers}
use Rattle.format_directory.specs.Directory.{Layer, no_layer, layer_body, layers_from, total_of, last_of, letters, end_letters, end_listed, listed, listed_all, per_layer, per_record, columns_of, record_of, row, closing}
use Rattle.format_directory.proofs.DirectoryRecords.{TwoLetters, two_letters, two_end_letters, length_columns, length_record, length-listed, length-listed_all, length-row, most, row_fits, Short, short-listed, fit_at}
use Rattle.format_directory.proofs.DirectoryRecords as DirectoryRecords
use Rattle.format_directory.proofs.DirectoryLayers.{layers-fit}
use Rattle.format_directory.proofs.DirectoryBodies.{layers-behind}
use Rattle.directories.specs.declared.writing.Passed.{Passed}
use Rattle.directories.specs.Steps.{views_in, layers_in, is_layer, item_of, behind_entry, NextLayer, behind_layer, SmallNumbers, FirstLayer, Kept, numbers_put, layer_put, RowFrom}

-- ---- a header has no data records
header_due : (r : View) → is_header_at 1 r ≡ true → due_after 0 r ≡ 0
header_due r e = ap (λ (t : Bool). cond t 0 r.data_records) (and-true (is_head r.kind) (eqb r.level 1) e).0

-- ---- data records are passed over
skip : (due i : ℕ) (rs : List View) → layers_from due i rs ≡ layers_from 0 (i + due) (drop due rs)
skip zero i rs = ap (λ (n : ℕ). layers_from 0 n rs) (sym (add-zero i))
skip (suc due) i [] = refl
skip (suc due) i (r ∷ rs) = skip due (suc i) rs ∙ ap (λ (n : ℕ). layers_from 0 n (drop due rs)) (let q : suc i + due ≡ i + suc due = omega arith in q)

skip_length : (due : ℕ) (rs : List View) → due ≤ length rs → length (layer_body due rs) ≡ due + length (layer_body 0 (drop due rs))
skip_length zero rs h = sym (zero-add _)
skip_length (suc due) [] h = absurd (omega arith)
skip_length (suc due) (r ∷ rs) h = (omega (arith, skip_length due rs (omega arith)))

skip_all : (due : ℕ) (rs : List View) → length rs ≤ due → length (layer_body due rs) ≡ length rs
skip_all due [] h = refl
skip_all zero (r ∷ rs) h = absurd (omega arith)
skip_all (suc due) (r ∷ rs) h = ap suc (skip_all due rs (omega arith))

skip_items : (due : ℕ) (rs : List View) → items (headers_and_items due (layer_body due rs)) ≡ items (headers_and_items 0 (layer_body 0 (drop due rs)))
skip_items zero rs = refl
skip_items (suc due) [] = refl
skip_items (suc due) (r ∷ rs) = skip_items due rs

module _ (file : List ℕ) where
  abbrev rs : List (List ℕ)
  rs = records_of Plain file

  views_more : (k : ℕ) → k < length rs → views_in file k ≡ view (get_or rs k []) ∷ views_in file (suc k)
  unfolding views_in
  views_more k h = ap (map view) (drop-cons rs k [] h)

  views_over : (k : ℕ) → length rs ≤ k → views_in file k ≡ []
  unfolding views_in
  views_over k h = ap (map view) (drop_of_length-le rs h)

  views_later : (k n : ℕ) → drop n (views_in file k) ≡ views_in file (k + n)
  unfolding views_in
  views_later k n = mapped n (drop k rs) ∙ ap (map view) (drop-drop n k rs)
    where
      mapped : (n : ℕ) (l : List (List ℕ)) → drop n (map view l) ≡ map view (drop n l)
      mapped zero l = refl
      mapped (suc n) [] = refl
      mapped (suc n) (x ∷ l) = mapped n l

  views_count : (k : ℕ) → length (views_in file k) ≡ length rs - k
  unfolding views_in
  views_count k = length-map (drop k rs) view ∙ length-drop k rs

  pub none_over : (k : ℕ) → length rs ≤ k → layers_in file k ≡ []
  none_over k h = rw (views_over k h)

  -- ---- one record where a header or an item is due
  module _ (k : ℕ) (here : k < length rs) (o : Outline) (is : o ≡ outline_of (get_or rs k [])) where
    abbrev v : View
    v = view (get_or rs k [])

    wide : length (get_or rs k []) ≡ 84
    wide = record_wide Plain file k here

    head_is : is_head v.kind ≡ eqb o.kind 0
    head_is = outline_head (get_or rs k []) wide ∙ ap (λ (x : Outline). eqb x.kind 0) (sym is)

    layer_is : is_header_at 1 v ≡ is_layer o
    layer_is = outline_layer (get_or rs k []) wide ∙ ap (λ (x : Outline). eqb x.kind 0 && eqb x.level 1) (sym is)

    data_is : v.data_records ≡ o.data_records
    data_is = sym (ap (λ (x : Outline). x.data_records) is ∙ outline_data_records (get_or rs k []) wide)

    pub data_most : o.data_records ≤ 999999
    data_most = subst (λ (x : Outline). x.data_records ≤ 999999) (sym is) (outline_data_records_most (get_or rs k []) wide)

    -- it is the header of a layer
    layer-found : is_layer o ≡ true → layers_in file k ≡ record { header = suc k; body = layer_body 0 (views_in file (k + 1)) } ∷ layers_in file (k + 1)
    layer-found q = let p = and-true (is_head v.kind) (eqb v.level 1) (layer_is ∙ q) in rw (views_more k here, add-one k) (rw (p.0, p.1))

    -- it is not: the layers behind it and its data
    due_is : due_after 0 v ≡ cond (eqb o.kind 0) 0 o.data_records
    due_is = ap₂ (λ (t : Bool) (n : ℕ). cond t 0 n) head_is data_is

    layer-none : is_layer o ≡ false → layers_in file k ≡ layers_in file (behind_entry o k)
    layer-none q =
        ap (layers_from 0 (suc k)) (views_more k here)
        ∙ ap (λ (t : Bool). cond t (record { header = suc k; body = layer_body 0 (views_in file (suc k)) } ∷ []) [] ++ layers_from (due_after 0 v) (suc (suc k)) (views_in file (suc k))) (layer_is ∙ q)
        ∙ skip (due_after 0 v) (suc (suc k)) (views_in file (suc k))
        ∙ ap (layers_from 0 (suc (suc k) + due_after 0 v)) (views_later (suc k) (due_after 0 v))
        ∙ ap (λ (n : ℕ). layers_from 0 n (views_in file (suc k + due_after 0 v))) (let x : suc (suc k) + due_after 0 v ≡ suc (suc k + due_after 0 v) = omega arith in x)
        ∙ ap (λ (n : ℕ). layers_in file n) (ap (λ (n : ℕ). suc k + n) due_is ∙ go (eqb o.kind 0))
      where
        go : (t : Bool) → suc k + cond t 0 o.data_records ≡ cond t (k + 1) (k + 1 + o.data_records)
        go true = omega arith
        go false = omega arith

  -- ---- the body from such a record on
  module _ (k : ℕ) (here : k < length rs) (o : Outline) (is : o ≡ outline_of (get_or rs k [])) where
    abbrev w : View
    w = view (get_or rs k [])

    pub body-none : is_layer o ≡ true → layer_body 0 (views_in file k) ≡ []
    body-none q = ap (layer_body 0) (views_more k here) ∙ ap (λ (t : Bool). cond t [] (w ∷ layer_body (due_after 0 w) (views_in file (suc k)))) (layer_is k here o is ∙ q)

    own_body : is_layer o ≡ false → layer_body 0 (views_in file k) ≡ w ∷ layer_body (due_after 0 w) (views_in file (suc k))
    own_body q = ap (layer_body 0) (views_more k here) ∙ ap (λ (t : Bool). cond t [] (w ∷ layer_body (due_after 0 w) (views_in file (suc k)))) (layer_is k here o is ∙ q)

    behind_is : suc k + due_after 0 w ≡ behind_entry o k
    behind_is = ap (λ (n : ℕ). suc k + n) (due_is k here o is) ∙ go (eqb o.kind 0)
      where
        go : (t : Bool) → suc k + cond t 0 o.data_records ≡ cond t (k + 1) (k + 1 + o.data_records)
        go true = omega arith
        go false = omega arith

    body-length : is_layer o ≡ false → k + length (layer_body 0 (views_in file k)) ≡ suc k + length (layer_body (due_after 0 w) (views_in file (suc k)))
    body-length q = ap (λ (vs : List View). k + length vs) (own_body q) ∙ (let x : k + suc (length (layer_body (due_after 0 w) (views_in file (suc k)))) ≡ suc k + length (layer_body (due_after 0 w) (views_in file (suc k))) = omega arith in x)

    pub body_hop : is_layer o ≡ false → behind_entry o k ≤ length rs → k + length (layer_body 0 (views_in file k)) ≡ behind_entry o k + length (layer_body 0 (views_in file (behind_entry o k)))
    body_hop q h =
        body-length q
        ∙ ap (λ (n : ℕ). suc k + n) (skip_length (due_after 0 w) (views_in file (suc k)) (omega (arith, views_count (suc k), behind_is)))
        ∙ (let x : suc k + (due_after 0 w + length (layer_body 0 (drop (due_after 0 w) (views_in file (suc k))))) ≡ suc k + due_after 0 w + length (layer_body 0 (drop (due_after 0 w) (views_in file (suc k)))) = omega arith in x)
        ∙ ap (λ (vs : List View). suc k + due_after 0 w + length (layer_body 0 vs)) (views_later (suc k) (due_after 0 w))
        ∙ ap (λ (n : ℕ). n + length (layer_body 0 (views_in file n))) behind_is

    pub body_past : is_layer o ≡ false → length rs ≤ behind_entry o k → k + length (layer_body 0 (views_in file k)) ≡ length rs
    body_past q h = body-length q ∙ ap (λ (n : ℕ). suc k + n) (skip_all (due_after 0 w) (views_in file (suc k)) (omega (arith, views_count (suc k), behind_is)) ∙ views_count (suc k)) ∙ (omega arith)

    pub items_hop : is_layer o ≡ false → items (headers_and_items 0 (layer_body 0 (views_in file k))) ≡ cond (eqb o.kind 0) 0 1 + items (headers_and_items 0 (layer_body 0 (views_in file (behind_entry o k))))
    items_hop q =
        ap (λ (vs : List View). items (headers_and_items 0 vs)) (own_body q)
        ∙ ap₂ (λ (t : Bool) (n : ℕ). cond t 0 1 + n) (head_is k here o is) (skip_items (due_after 0 w) (views_in file (suc k)) ∙ ap (λ (vs : List View). items (headers_and_items 0 (layer_body 0 vs))) (views_later (suc k) (due_after 0 w)))
        ∙ ap (λ (n : ℕ). cond (eqb o.kind 0) 0 1 + items (headers_and_items 0 (layer_body 0 (views_in file n)))) behind_is

pub at_small : (file : List ℕ) (at count : ℕ) → count ≡ length (records_of Plain file) → at < count → length file < 2 ^ 64 → 84 * at < 2 ^ 64
unfolding stride_of
at_small file at count counted h long = omega (arith, counted, record_inside Plain file at (let x : at < length (records_of Plain file) = omega (arith, counted) in x))

-- ---- the loop of `next_layer`: the layers from record k on are those from record `at` on, and `items` items stand between
pub record Passing (file : List ℕ) (k at items₁ : ℕ) : Type 0 where
  pub few : k + items₁ ≤ at
  pub same-layers : layers_in file k ≡ layers_in file at
  pub body_on : at ≤ length (records_of Plain file) → k + length (layer_body 0 (views_in file k)) ≡ at + length (layer_body 0 (views_in file at))
  pub body-over : k ≤ length (records_of Plain file) → length (records_of Plain file) ≤ at → k + length (layer_body 0 (views_in file k)) ≡ length (records_of Plain file)
  pub items_on : items (headers_and_items 0 (layer_body 0 (views_in file k))) ≡ items₁ + items (headers_and_items 0 (layer_body 0 (views_in file at)))

pub passing : (file : List ℕ) (k : ℕ) → Passing file k k 0
passing file k = record { few = omega arith; same-layers = refl; body_on = λ h. refl; body-over = λ h l. rw (views_over file k l) (omega arith); items_on = sym (zero-add _) }

at_most : (t : Bool) → cond t 0 1 ≤ 1
at_most true = omega arith
at_most false = omega arith

module _ (file : List ℕ) (k at count items₁ : ℕ) (counted : count ≡ length (records_of Plain file)) (g : Passing file k at items₁) where
  module _ (here : at < count) (o : Outline) (r : List ℕ) (r-is : r ≡ get_or (records_of Plain file) at []) (o_is : o ≡ outline_of r) where
    inside : at < length (records_of Plain file)
    inside = omega (arith, counted)

    own : o ≡ outline_of (get_or (records_of Plain file) at [])
    own = o_is ∙ ap outline_of r-is

    pub few_data : o.data_records ≤ 999999
    few_data = data_most file at inside o own

    pub item-fits : (one : ℕ) → one ≡ item_of o → length file < 2 ^ 64 → Fits w64 (items₁ + one)
    item-fits one one-is long = record { fits = omega (arith, g.few, one-is, at_most (eqb o.kind 0), at_small file at count counted here long) }

    module _ (t : Bool) (t-is : t ≡ is_layer o) where
      pub layer-there : t ≡ true → NextLayer file k (record { items = items₁; next = at })
      layer-there h = record {
        within = omega (arith, inside);
        found = λ l. g.same-layers ∙ layer-found file at inside o own (sym t-is ∙ h);
        none_left = λ l. absurd (omega (arith, inside));
        body_long = λ l. g.body_on (omega (arith, inside)) ∙ ap (λ (vs : List View). at + length vs) (body-none file at inside o own (sym t-is ∙ h)) ∙ add-zero at;
        items_are = g.items_on ∙ ap (λ (vs : List View). items₁ + items (headers_and_items 0 vs)) (body-none file at inside o own (sym t-is ∙ h)) ∙ add-zero items₁;
      }

      module _ (next : ℕ) (next-is : next ≡ behind_entry o at) (no : t ≡ false) where
        further : at < next
        further = omega (arith, next-is, go (eqb o.kind 0))
          where
            go : (t : Bool) → at < cond t (at + 1) (at + 1 + o.data_records)
            go true = omega arith
            go false = omega arith

        pub hop_on : count - next < count - at
        hop_on = omega (arith, further)

        pub hops : (one : ℕ) → one ≡ item_of o → Passing file k next (items₁ + one)
        hops one one-is = record {
          few = omega (arith, g.few, further, one-is, at_most (eqb o.kind 0));
          same-layers = g.same-layers ∙ layer-none file at inside o own (sym t-is ∙ no) ∙ ap (layers_in file) (sym next-is);
          body_on = λ l. g.body_on (omega (arith, inside)) ∙ body_hop file at inside o own (sym t-is ∙ no) (subst (λ (n : ℕ). n ≤ length (records_of Plain file)) next-is l) ∙ ap (λ (n : ℕ). n + length (layer_body 0 (views_in file n))) (sym next-is);
          body-over = λ l m. g.body_on (omega (arith, inside)) ∙ body_past file at inside o own (sym t-is ∙ no) (subst (λ (n : ℕ). length (records_of Plain file) ≤ n) next-is m);
          items_on = g.items_on ∙ ap (λ (n : ℕ). items₁ + n) (items_hop file at inside o own (sym t-is ∙ no) ∙ ap (λ (n : ℕ). item_of o + items (headers_and_items 0 (layer_body 0 (views_in file n)))) (sym next-is)) ∙ (let q : items₁ + (item_of o + items (headers_and_items 0 (layer_body 0 (views_in file next)))) ≡ items₁ + one + items (headers_and_items 0 (layer_body 0 (views_in file next))) = omega (arith, one-is) in q);
        }

  pub no_layer_lem : count ≤ at → NextLayer file k (record { items = items₁; next = count })
  no_layer_lem h = record {
    within = omega (arith, counted);
    found = λ l. absurd (omega (arith, counted));
    none_left = λ l. g.same-layers ∙ none_over file at (omega (arith, counted));
    body_long = λ l. g.body-over l (omega (arith, counted)) ∙ sym counted;
    items_are = g.items_on ∙ ap (λ (vs : List View). items₁ + items (headers_and_items 0 (layer_body 0 vs))) (views_over file at (omega (arith, counted))) ∙ add-zero items₁;
  }

-- ---- `find_layer`
module _ (file : List ℕ) (k : ℕ) (r : Passed) (g : NextLayer file k r) (count : ℕ) (counted : count ≡ length (records_of Plain file)) where
  pub none_found : count ≤ r.next → layers_in file k ≡ []
  none_found h = g.none_left (omega (arith, counted))

  module _ (e : Edition) (here : r.next < count) where
    l₁ : Layer
    l₁ = record { header = suc r.next; body = layer_body 0 (views_in file (r.next + 1)) }

    there : layers_in file k ≡ l₁ ∷ layers_in file (r.next + 1)
    unfolding l₁
    there = g.found (omega (arith, counted))

    pub first_found : e ≡ One → FirstLayer file e k (record { header = r.next + 1; total = 0; last = 0 })
    unfolding listed_of l₁
    first_found is = subst (λ (x : Edition). FirstLayer file x k (record { header = r.next + 1; total = 0; last = 0 })) (sym is) (record { layer = l₁; split = there; numbers_are_lem = ap (λ (n : ℕ). n ∷ []) (add-one r.next) })

    module _ (b : Passed) (body : NextLayer file (r.next + 1) b) (is : e ≡ Two) where
      last_is : last_of l₁ ≡ b.next
      unfolding last_of l₁
      last_is = (let q : suc r.next + length (layer_body 0 (views_in file (r.next + 1))) ≡ r.next + 1 + length (layer_body 0 (views_in file (r.next + 1))) = omega arith in q) ∙ body.body_long (omega (arith, counted))

      total_is : total_of l₁ ≡ b.items
      unfolding total_of l₁
      total_is = body.items_are

      behind-it : layers_in file (r.next + 1) ≡ layers_in file b.next
      behind-it =
          layers-behind 0 (suc (r.next + 1)) (views_in file (r.next + 1))
          ∙ ap (layers_from 0 (suc (r.next + 1) + length (layer_body 0 (views_in file (r.next + 1))))) (views_later file (r.next + 1) (length (layer_body 0 (views_in file (r.next + 1)))))
          ∙ ap₂ (λ (m n : ℕ). layers_from 0 m (views_in file n)) (let q : suc (r.next + 1) + length (layer_body 0 (views_in file (r.next + 1))) ≡ suc b.next = omega (arith, body.body_long (omega (arith, counted))) in q) (body.body_long (omega (arith, counted)))

      pub second_found : FirstLayer file e k (record { header = r.next + 1; total = b.items; last = b.next })
      unfolding listed_of l₁
      second_found = subst (λ (x : Edition). FirstLayer file x k (record { header = r.next + 1; total = b.items; last = b.next })) (sym is) (record { layer = l₁; split = there ∙ ap (λ (ls : List Layer). l₁ ∷ ls) behind-it; numbers_are_lem = λ i. header_is i ∷ sym total_is i ∷ sym last_is i ∷ [] })
        where
          header_is : r.next + 1 ≡ l₁.header
          header_is = add-one r.next

-- ---- `layer_from`: what is listed of layer j of a file, as judging kept it
-- number j of the layers among some records, and those behind it
record Place (due i : ℕ) (rs : List View) (j : ℕ) : Type 0 where
  header : ℕ
  low : i ≤ header
  inside : header - i < length rs
  split : drop j (layers_from due i rs) ≡ record { header = header; body = layer_body 0 (drop (suc header - i) rs) } ∷ layers_from 0 (suc header) (drop (suc header - i) rs)

place_on : (due due' i : ℕ) (r : View) (rs : List View) (j j' : ℕ) → drop j' (layers_from due' i (r ∷ rs)) ≡ drop j (layers_from due (suc i) rs) → Place due (suc i) rs j → Place due' i (r ∷ rs) j'
place_on due due' i r rs j j' e p = record {
  header = p.header;
  low = omega (arith, p.low);
  inside = omega (arith, p.low, p.inside);
  split = e ∙ p.split ∙ ap (λ (l : List View). record { header = p.header; body = layer_body 0 l } ∷ layers_from 0 (suc p.header) l) (ap (λ (n : ℕ). drop n (r ∷ rs)) (let q : suc (suc p.header - suc i) ≡ suc p.header - i = omega (arith, p.low) in q));
}

place_of : (due i : ℕ) (rs : List View) (j : ℕ) → j < length (layers_from due i rs) → Place due i rs j
place_of due i [] j h = absurd (omega arith)
place_of zero i (r ∷ rs) j h = go (is_header_at 1 r) refl j (place_of (due_after 0 r) (suc i) rs) h
  where
    rest : List Layer
    rest = layers_from (due_after 0 r) (suc i) rs

    all : (t : Bool) → is_header_at 1 r ≡ t → layers_from 0 i (r ∷ rs) ≡ cond t (record { header = i; body = layer_body 0 rs } ∷ []) [] ++ layers_from (due_after 0 r) (suc i) rs
    all t e = ap (λ (x : Bool). cond x (record { header = i; body = layer_body 0 rs } ∷ []) [] ++ layers_from (due_after 0 r) (suc i) rs) e

    go : (t : Bool) → is_header_at 1 r ≡ t → (j : ℕ) → ((j : ℕ) → j < length (layers_from (due_after 0 r) (suc i) rs) → Place (due_after 0 r) (suc i) rs j) → j < length (layers_from 0 i (r ∷ rs)) → Place zero i (r ∷ rs) j
    go false e j ih h = place_on (due_after 0 r) zero i r rs j j (ap (drop j) (all false e)) (ih j (subst (λ (l : List Layer). j < length l) (all false e) h))
    go true e (suc j) ih h = place_on (due_after 0 r) zero i r rs j (suc j) (ap (drop (suc j)) (all true e)) (ih j (omega (arith, ap length (all true e))))
    go true e zero ih h = record {
      header = i;
      low = omega arith;
      inside = omega arith;
      split = all true e ∙ ap₂ (λ (l : List View) (m : ℕ). record { header = i; body = layer_body 0 l } ∷ layers_from m (suc i) l) (ap (λ (n : ℕ). drop n (r ∷ rs)) (let q : 1 ≡ suc i - i = omega arith in q)) (header_due r e);
    }
place_of (suc due) i (r ∷ rs) j h = place_on due (suc due) i r rs j j refl (place_of due (suc i) rs j h)

-- the layers behind one with these numbers, by what is listed of it
behind-numbers : (file : List ℕ) (e : Edition) (n : LayerNumbers) (header : ℕ) (vs : List View) → vs ≡ views_in file header → listed_of e n ≡ listed e (record { header = header; body = layer_body 0 vs }) → layers_in file header ≡ layers_in file (behind_layer e n)
unfolding listed_of last_of
behind-numbers file One n header vs vs_is q = let h : n.header ≡ header = cc in ap (layers_in file) (sym h)
behind-numbers file Two n header vs vs_is q =
    let h : n.last ≡ header + length (layer_body 0 vs) = cc in
    layers-behind 0 (suc header) (views_in file header)
    ∙ ap (layers_from 0 (suc header + length (layer_body 0 (views_in file header)))) (views_later file header (length (layer_body 0 (views_in file header))))
    ∙ ap₂ (λ (a b : ℕ). layers_from 0 a (views_in file b)) (let x : suc header + length (layer_body 0 (views_in file header)) ≡ suc n.last = omega (arith, h, ap (λ (l : List View). length (layer_body 0 l)) vs_is) in x) (let x : header + length (layer_body 0 (views_in file header)) ≡ n.last = omega (arith, h, ap (λ (l : List View). length (layer_body 0 l)) vs_is) in x)

-- what is kept of some layers: the numbers of layer j from its place on
kept_from : (e : Edition) (room : ℕ) (ls : List Layer) (j : ℕ) → j < room → j < length ls → drop (per_layer e * j) (first_numbers e room ls) ≡ listed e (get_or ls j no_layer) ++ first_numbers e (room - suc j) (drop (suc j) ls)
kept_from e zero ls j h l = absurd (omega arith)
kept_from e (suc room) [] j h l = absurd (omega arith)
kept_from e (suc room) (x ∷ ls) zero h l = ap (λ (n : ℕ). drop n (listed e x ++ first_numbers e room ls)) (let q : per_layer e * 0 ≡ 0 = omega arith in q) ∙ ap (λ (n : ℕ). listed e x ++ first_numbers e n ls) (let q : room ≡ suc room - 1 = omega arith in q)
kept_from e (suc room) (x ∷ ls) (suc j) h l =
    ap (λ (n : ℕ). drop n (listed e x ++ first_numbers e room ls)) (let q : per_layer e * suc j ≡ per_layer e + per_layer e * j = omega arith in q)
    ∙ sym (drop-drop (per_layer e * j) (per_layer e) (listed e x ++ first_numbers e room ls))
    ∙ ap (drop (per_layer e * j)) (drop_at (listed e x) (first_numbers e room ls) (per_layer e) (length-listed e x))
    ∙ kept_from e room ls j (omega arith) (omega arith)
    ∙ ap (λ (n : ℕ). listed e (get_or ls j no_layer) ++ first_numbers e n (drop (suc j) ls)) (let q : room - suc j ≡ suc room - suc (suc j) = omega arith in q)

pub kept_at : (e : Edition) (room : ℕ) (ls : List Layer) (j i : ℕ) → j < room → j < length ls → i < per_layer e → get_or (first_numbers e room ls) (per_layer e * j + i) 0 ≡ get_or (listed e (get_or ls j no_layer)) i 0
kept_at e room ls j i h l m = sym (get_or-drop (per_layer e * j) (first_numbers e room ls) i 0) ∙ ap (λ (x : List ℕ). get_or x i 0) (kept_from e room ls j h l) ∙ get_or-append (listed e (get_or ls j no_layer)) (first_numbers e (room - suc j) (drop (suc j) ls)) 0 i (omega (arith, length-listed e (get_or ls j no_layer)))

some-own : (e : Edition) → 0 < per_layer e
some-own One = omega arith
some-own Two = omega arith

zeros : (n i : ℕ) (zs : List ℕ) → i < n → ◌≡◌ {A = ℕ} (get_or (replicate n 0 ++ zs) i 0) 0
zeros zero i zs h = absurd (omega arith)
zeros (suc n) zero zs h = refl
zeros (suc n) (suc i) zs h = zeros n i zs (omega arith)

kept-over : (e : Edition) (room : ℕ) (ls : List Layer) (j : ℕ) → j < room → length ls ≤ j → get_or (first_numbers e room ls) (per_layer e * j) 0 ≡ 0
kept-over e zero ls j h l = absurd (omega arith)
kept-over e (suc room) [] zero h l = ap (λ (n : ℕ). get_or (replicate (per_layer e) 0 ++ first_numbers e room []) n 0) (let q : per_layer e * 0 ≡ 0 = omega arith in q) ∙ zeros (per_layer e) 0 (first_numbers e room []) (some-own e)
kept-over e (suc room) [] (suc j) h l = ap (λ (n : ℕ). get_or (replicate (per_layer e) 0 ++ first_numbers e room []) n 0) (let q : per_layer e * suc j ≡ length (replicate {A = ℕ} (per_layer e) 0) + per_layer e * j = omega (arith, length-replicate {A = ℕ} (per_layer e) 0) in q) ∙ get_or-append-add (replicate (per_layer e) 0) (first_numbers e room []) (per_layer e * j) 0 ∙ kept-over e room [] j (omega arith) (omega arith)
kept-over e (suc room) (x ∷ ls) zero h l = absurd (omega arith)
kept-over e (suc room) (x ∷ ls) (suc j) h l = ap (λ (n : ℕ). get_or (listed e x ++ first_numbers e room ls) n 0) (let q : per_layer e * suc j ≡ length (listed e x) + per_layer e * j = omega (arith, length-listed e x) in q) ∙ get_or-append-add (listed e x) (first_numbers e room ls) (per_layer e * j) 0 ∙ kept-over e room ls j (omega arith) (omega arith)

module _ (file : List ℕ) (e : Edition) (first : List ℕ) (before k : ℕ) (g : Kept file e first before k) (few : before < kept_layers e) where
  abbrev kept_of : List Layer
  kept_of = layers_in file g.part

  -- what stands in the place of this layer
  first-at : (i : ℕ) → before < length kept_of → i < per_layer e → get_or first (per_layer e * before + i) 0 ≡ get_or (listed e (get_or kept_of before no_layer)) i 0
  first-at i l h = ap (λ (x : List ℕ). get_or x (per_layer e * before + i) 0) g.are ∙ kept_at e (kept_layers e) kept_of before i few l h

  gone : length kept_of ≤ before → layers_in file k ≡ []
  gone l = g.left ∙ drop_of_length-le kept_of l

  none : get_or first (per_layer e * before) 0 ≡ 0 → before < length kept_of → ⊥
  none z l =
      let p : Place 0 (suc g.part) (views_in file g.part) before = place_of 0 (suc g.part) (views_in file g.part) before l in
      omega (arith, p.low, z, place_header p l, ap (λ (m : ℕ). get_or first m 0) (let q : per_layer e * before ≡ per_layer e * before + 0 = omega arith in q) ∙ first-at 0 l (some-own e) ∙ first-number e (get_or kept_of before no_layer))
    where
      first-number : (x : Edition) (l : Layer) → get_or (listed x l) 0 0 ≡ l.header
      first-number One l = refl
      first-number Two l = refl

      place_header : (p : Place 0 (suc g.part) (views_in file g.part) before) → before < length kept_of → (get_or kept_of before no_layer).header ≡ p.header
      place_header p l =
          let q : get_or kept_of before no_layer ∷ drop (suc before) kept_of ≡ record { header = p.header; body = layer_body 0 (drop (suc p.header - suc g.part) (views_in file g.part)) } ∷ layers_from 0 (suc p.header) (drop (suc p.header - suc g.part) (views_in file g.part)) = sym (drop-cons kept_of before no_layer l) ∙ p.split in
          let r : get_or kept_of before no_layer ≡ record { header = p.header; body = layer_body 0 (drop (suc p.header - suc g.part) (views_in file g.part)) } = cc in
          ap (λ (x : Layer). x.header) r

  none-kept : get_or first (per_layer e * before) 0 ≡ 0 → layers_in file k ≡ []
  none-kept z = go (ltb before (length kept_of)) refl
    where
      go : (t : Bool) → ltb before (length kept_of) ≡ t → layers_in file k ≡ []
      go true q = absurd (none z (ltb-true before (length kept_of) q))
      go false q = gone (ltb-false before (length kept_of) q)

  module _ (n : LayerNumbers) (numbers_are_lem : (l : before < length (layers_in file g.part)) → listed_of e n ≡ listed e (get_or (layers_in file g.part) before no_layer)) (header_is : n.header ≡ get_or first (per_layer e * before) 0) where
    here : before < length kept_of → FirstLayer file e k n
    here l = record { layer = get_or kept_of before no_layer; split = g.left ∙ drop-cons kept_of before no_layer l ∙ ap (λ (ls : List Layer). get_or kept_of before no_layer ∷ ls) behind-it; numbers_are_lem = numbers_are_lem l }
      where
        p : Place 0 (suc g.part) (views_in file g.part) before
        p = place_of 0 (suc g.part) (views_in file g.part) before l

        vs : List View
        vs = drop (suc p.header - suc g.part) (views_in file g.part)

        parts : get_or kept_of before no_layer ∷ drop (suc before) kept_of ≡ record { header = p.header; body = layer_body 0 vs } ∷ layers_from 0 (suc p.header) vs
        parts = sym (drop-cons kept_of before no_layer l) ∙ p.split

        layer_is₁ : get_or kept_of before no_layer ≡ record { header = p.header; body = layer_body 0 vs }
        layer_is₁ = let q : get_or kept_of before no_layer ∷ drop (suc before) kept_of ≡ record { header = p.header; body = layer_body 0 vs } ∷ layers_from 0 (suc p.header) vs = parts in let r : get_or kept_of before no_layer ≡ record { header = p.header; body = layer_body 0 vs } = cc in r

        rest_is : drop (suc before) kept_of ≡ layers_from 0 (suc p.header) vs
        rest_is = let q : get_or kept_of before no_layer ∷ drop (suc before) kept_of ≡ record { header = p.header; body = layer_body 0 vs } ∷ layers_from 0 (suc p.header) vs = parts in let r : drop (suc before) kept_of ≡ layers_from 0 (suc p.header) vs = cc in r

        vs_is : vs ≡ views_in file p.header
        vs_is = views_later file g.part (suc p.header - suc g.part) ∙ ap (views_in file) (let q : g.part + (suc p.header - suc g.part) ≡ p.header = omega (arith, p.low) in q)

        behind-it : drop (suc before) kept_of ≡ layers_in file (behind_layer e n)
        behind-it = rest_is ∙ ap (layers_from 0 (suc p.header)) vs_is ∙ on e (numbers_are_lem l ∙ ap (listed e) layer_is₁)
          where
            on : (x : Edition) → listed_of x n ≡ listed x (record { header = p.header; body = layer_body 0 vs }) → layers_in file p.header ≡ layers_in file (behind_layer x n)
            on x q = behind-numbers file x n p.header vs vs_is q

    from-kept : (n.header ≡ 0 → ⊥) → FirstLayer file e k n
    from-kept ne = go (ltb before (length kept_of)) refl
      where
        go : (t : Bool) → ltb before (length kept_of) ≡ t → FirstLayer file e k n
        go true q = here (ltb-true before (length kept_of) q)
        go false q = absurd (ne (header_is ∙ ap (λ (x : List ℕ). get_or x (per_layer e * before) 0) g.are ∙ kept-over e (kept_layers e) kept_of before few (ltb-false before (length kept_of) q)))

  kept-first : e ≡ One → (get_or first (per_layer e * before) 0 ≡ 0 → ⊥) → FirstLayer file e k (record { header = get_or first (per_layer e * before) 0; total = 0; last = 0 })
  unfolding listed_of
  kept-first is = from-kept n (λ l. ap (λ (x : Edition). listed_of x n) is ∙ ap (λ (m : ℕ). m ∷ []) (number l) ∙ ap (λ (x : Edition). listed x (get_or kept_of before no_layer)) (sym is)) refl
    where
      n : LayerNumbers
      n = record { header = get_or first (per_layer e * before) 0; total = 0; last = 0 }

      number : before < length kept_of → get_or first (per_layer e * before) 0 ≡ (get_or kept_of before no_layer).header
      number l = ap (λ (m : ℕ). get_or first m 0) (sym (add-zero (per_layer e * before))) ∙ first-at 0 l (some-own e) ∙ ap (λ (x : Edition). get_or (listed x (get_or kept_of before no_layer)) 0 0) is

  kept_second : e ≡ Two → (get_or first (per_layer e * before) 0 ≡ 0 → ⊥) → FirstLayer file e k (record { header = get_or first (per_layer e * before) 0; total = get_or first (per_layer e * before + 1) 0; last = get_or first (per_layer e * before + 2) 0 })
  unfolding listed_of
  kept_second is = from-kept n (λ l. ap (λ (x : Edition). listed_of x n) is ∙ (λ i. header l i ∷ number 1 (omega arith) l i ∷ number 2 (omega arith) l i ∷ []) ∙ ap (λ (x : Edition). listed x (get_or kept_of before no_layer)) (sym is)) refl
    where
      n : LayerNumbers
      n = record { header = get_or first (per_layer e * before) 0; total = get_or first (per_layer e * before + 1) 0; last = get_or first (per_layer e * before + 2) 0 }

      number : (i : ℕ) → i < 3 → before < length kept_of → get_or first (per_layer e * before + i) 0 ≡ get_or (listed Two (get_or kept_of before no_layer)) i 0
      number i h l = first-at i l (subst (λ (x : Edition). i < per_layer x) (sym is) h) ∙ ap (λ (x : Edition). get_or (listed x (get_or kept_of before no_layer)) i 0) is

      header : before < length kept_of → get_or first (per_layer e * before) 0 ≡ (get_or kept_of before no_layer).header
      header l = ap (λ (m : ℕ). get_or first m 0) (sym (add-zero (per_layer e * before))) ∙ number 0 (omega arith) l

module _ (file : List ℕ) (e : Edition) (first : List ℕ) (before k : ℕ) (g : Kept file e first before k) where
  module _ (room own : ℕ) (room-is : room ≡ kept_layers e) (own-is : own ≡ per_layer e) (below : before < room) where
    few : before < kept_layers e
    few = omega arith

    pub none_kept : get_or first (own * before) 0 ≡ 0 → layers_in file k ≡ []
    none_kept = subst (λ (m : ℕ). get_or first (m * before) 0 ≡ 0 → layers_in file k ≡ []) (sym own-is) (none-kept file e first before k g few)

    pub first_kept : e ≡ One → (get_or first (own * before) 0 ≡ 0 → ⊥) → FirstLayer file e k (record { header = get_or first (own * before) 0; total = 0; last = 0 })
    first_kept is = subst (λ (m : ℕ). (get_or first (m * before) 0 ≡ 0 → ⊥) → FirstLayer file e k (record { header = get_or first (m * before) 0; total = 0; last = 0 })) (sym own-is) (kept-first file e first before k g few is)

    pub second_kept : e ≡ Two → (get_or first (own * before) 0 ≡ 0 → ⊥) → FirstLayer file e k (record { header = get_or first (own * before) 0; total = get_or first (own * before + 1) 0; last = get_or first (own * before + 2) 0 })
    second_kept is = subst (λ (m : ℕ). (get_or first (m * before) 0 ≡ 0 → ⊥) → FirstLayer file e k (record { header = get_or first (m * before) 0; total = get_or first (m * before + 1) 0; last = get_or first (m * before + 2) 0 })) (sym own-is) (kept_second file e first before k g few is)

-- ---- `put_number`
pub number_put : (b l' : List ℕ) (k n : ℕ) (done : Bool) → length b ≡ 84 → k < 11 → n ≤ 9999999 → record { done = done; bytes = l' } ≡ write_at b (2 + 7 * k) 7 (to_z w64 (of_z w64 (pos n))) → l' ≡ splice (2 + 7 * k) 7 (written 7 (pos n)) b
number_put b l' k n done w h m e = number-written 7 n (omega arith) (let x : n < 10 ^ 7 = omega arith in x) b l' (2 + 7 * k) done (omega arith) (omega arith) e

-- ---- `put_layer`
module _ (e : Edition) (before : ℕ) (n : LayerNumbers) (b : List ℕ) (below : before < per_record e) where
  module _ (is : e ≡ One) where
    pub first_put : (after : List ℕ) → after ≡ splice (2 + 7 * before) 7 (written 7 (pos n.header)) b → after ≡ layer_put e before n b
    unfolding layer_put listed_of
    first_put after q = q ∙ ap (λ (k : ℕ). splice (2 + 7 * k) 7 (written 7 (pos n.header)) b) (let x : before ≡ 1 * before = omega arith in x) ∙ ap (λ (x : Edition). numbers_put (per_layer x * before) (listed_of x n) b) (sym is)

  module _ (is : e ≡ Two) where
    module _ (h : SmallNumbers e n) where
      small : (n.header ≤ 9999999) × (n.total ≤ 9999999) × (n.last ≤ 9999999)
      small = subst (λ (x : Edition). SmallNumbers x n) is h

    pub second_put : (b₁ b₂ b₃ : List ℕ) → b₁ ≡ splice (2 + 7 * (3 * before)) 7 (written 7 (pos n.header)) b → b₂ ≡ splice (2 + 7 * (3 * before + 1)) 7 (written 7 (pos n.total)) b₁ → b₃ ≡ splice (2 + 7 * (3 * before + 2)) 7 (written 7 (pos n.last)) b₂ → b₃ ≡ layer_put e before n b
    unfolding layer_put listed_of
    second_put b₁ b₂ b₃ q₁ q₂ q₃ =
        q₃
        ∙ ap₂ (λ (k : ℕ) (x : List ℕ). splice (2 + 7 * k) 7 (written 7 (pos n.last)) x) (let x : 3 * before + 2 ≡ suc (suc (3 * before)) = omega arith in x) (q₂ ∙ ap₂ (λ (k : ℕ) (x : List ℕ). splice (2 + 7 * k) 7 (written 7 (pos n.total)) x) (add-one (3 * before)) q₁)
        ∙ ap (λ (x : Edition). numbers_put (per_layer x * before) (listed_of x n) b) (sym is)

drop-spaces : (n m : ℕ) → n ≤ m → drop {A = ℕ} n (replicate m 32) ≡ replicate (m - n) 32
drop-spaces zero m h = ap (λ (x : ℕ). replicate x 32) (let q : m ≡ m - 0 = omega arith in q)
drop-spaces (suc n) zero h = absurd (omega arith)
drop-spaces (suc n) (suc m) h = drop-spaces n m (omega arith) ∙ ap (λ (x : ℕ). replicate x 32) (let q : m - n ≡ suc m - suc n = omega arith in q)

columns_more : (ns : List ℕ) (n : ℕ) → columns_of (ns ++ (n ∷ [])) ≡ columns_of ns ++ written 7 (pos n)
columns_more [] n = append-nil (written 7 (pos n))
columns_more (m ∷ ns) n = ap (λ (x : List ℕ). written 7 (pos m) ++ x) (columns_more ns n) ∙ sym (append_assoc (written 7 (pos m)) (columns_of ns) (written 7 (pos n)))

module _ (l ns : List ℕ) (two : TwoLetters l) (n : ℕ) (room : length ns < 11) where
  front_long : length (l ++ columns_of ns) ≡ 2 + 7 * length ns
  front_long = length-append l (columns_of ns) ∙ ap₂ (λ (a b : ℕ). a + b) (ap length two.are) (length_columns ns)

  rest : ℕ → List ℕ
  rest k = replicate (82 - 7 * k) 32

  one_string : record_of l ns ≡ (l ++ columns_of ns) ++ replicate (82 - 7 * length ns) 32
  one_string = sym (append_assoc l (columns_of ns) (replicate (82 - 7 * length ns) 32))

  pub number_added : splice (2 + 7 * length ns) 7 (written 7 (pos n)) (record_of l ns) ≡ record_of l (ns ++ (n ∷ []))
  unfolding splice
  number_added =
      ap₂ (λ (a b : List ℕ). a ++ (written 7 (pos n) ++ b))
      (ap (take (2 + 7 * length ns)) one_string ∙ take_at (l ++ columns_of ns) (replicate (82 - 7 * length ns) 32) (2 + 7 * length ns) front_long)
      (ap (drop (2 + 7 * length ns + 7)) one_string ∙ sym (drop-drop 7 (2 + 7 * length ns) ((l ++ columns_of ns) ++ replicate (82 - 7 * length ns) 32)) ∙ ap (drop 7) (drop_at (l ++ columns_of ns) (replicate (82 - 7 * length ns) 32) (2 + 7 * length ns) front_long) ∙ drop-spaces 7 (82 - 7 * length ns) (omega arith) ∙ ap (λ (x : ℕ). replicate x 32) (let q : 82 - 7 * length ns - 7 ≡ 82 - 7 * length (ns ++ (n ∷ [])) = omega (arith, length-append ns (n ∷ [])) in q))
      ∙ append_assoc l (columns_of ns) (written 7 (pos n) ++ replicate (82 - 7 * length (ns ++ (n ∷ []))) 32)
      ∙ ap (λ (x : List ℕ). l ++ x) (sym (append_assoc (columns_of ns) (written 7 (pos n)) (replicate (82 - 7 * length (ns ++ (n ∷ []))) 32)) ∙ ap (λ (x : List ℕ). x ++ replicate (82 - 7 * length (ns ++ (n ∷ []))) 32) (sym (columns_more ns n)))

-- numbers written behind others
numbers_added : (l ns ms : List ℕ) → TwoLetters l → length ns + length ms ≤ 11 → numbers_put (length ns) ms (record_of l ns) ≡ record_of l (ns ++ ms)
numbers_added l ns [] two h = ap (record_of l) (sym (append-nil ns))
numbers_added l ns (m ∷ ms) two h =
    ap (numbers_put (suc (length ns)) ms) (number_added l ns two m (omega arith))
    ∙ ap (λ (k : ℕ). numbers_put k ms (record_of l (ns ++ (m ∷ [])))) (let q : suc (length ns) ≡ length (ns ++ (m ∷ [])) = omega (arith, length-append ns (m ∷ [])) in q)
    ∙ numbers_added l (ns ++ (m ∷ [])) ms two (omega (arith, length-append ns (m ∷ [])))
    ∙ ap (record_of l) (append_assoc ns (m ∷ []) ms)

-- ---- `blank`
pub blank_is : (l : List ℕ) → length l ≡ 2 → l ++ drop 2 (replicate 84 32) ≡ record_of l []
blank_is l q = refl

-- ---- `closing_bytes`: pointer and count, and the edition where there is one
module _ (e : Edition) (p c : ℕ) (l b b₁ b₂ : List ℕ) (l-is : l ≡ end_letters e) (q : b ≡ record_of l []) (q₁ : b₁ ≡ splice (2 + 7 * 0) 7 (written 7 (pos p)) b) (q₂ : b₂ ≡ splice (2 + 7 * 1) 7 (written 7 (pos c)) b₁) where
  two_written : b₂ ≡ record_of (end_letters e) (p ∷ c ∷ [])
  two_written = q₂ ∙ ap (splice (2 + 7 * 1) 7 (written 7 (pos c))) (q₁ ∙ ap (splice (2 + 7 * 0) 7 (written 7 (pos p))) (q ∙ ap (λ (x : List ℕ). record_of x []) l-is)) ∙ numbers_added (end_letters e) [] (p ∷ c ∷ []) (two_end_letters e) (omega arith)

  pub first_closing : (e ≡ Two → ⊥) → b₂ ≡ closing e p c
  unfolding closing
  first_closing ne = two_written ∙ ap (λ (x : Edition). record_of (end_letters e) (end_listed x p c)) (sym (other e ne))
    where
      other : (x : Edition) → (x ≡ Two → ⊥) → x ≡ One
      other One h = refl
      other Two h = absurd (h refl)

  pub second_closing : e ≡ Two → (b₃ : List ℕ) → b₃ ≡ splice (2 + 7 * 2) 7 (written 7 (pos 2)) b₂ → b₃ ≡ closing e p c
  unfolding closing
  second_closing is b₃ q₃ = q₃ ∙ ap (splice (2 + 7 * 2) 7 (written 7 (pos 2))) two_written ∙ number_added (end_letters e) (p ∷ c ∷ []) (two_end_letters e) 2 (omega arith) ∙ ap (λ (x : Edition). record_of (end_letters e) (end_listed x p c)) (sym is)

-- ---- the loop of `row_from`: i layers are written, and the others stand from record `at` on
pub record Filling (file : List ℕ) (e : Edition) (k each : ℕ) (bytes : List ℕ) (at i : ℕ) : Type 0 where
  pub below : i ≤ each
  pub taken : i ≤ length (layers_in file k)
  pub left : layers_in file at ≡ drop i (layers_in file k)
  pub bytes_are : bytes ≡ row e (take i (layers_in file k))

pub filling : (file : List ℕ) (e : Edition) (k each : ℕ) (l bytes : List ℕ) → l ≡ letters e → bytes ≡ record_of l [] → Filling file e k each bytes k 0
unfolding row
filling file e k each l bytes q h = record { below = omega arith; taken = omega arith; left = refl; bytes_are = h ∙ ap (λ (x : List ℕ). record_of x []) q }

pub row_long : (file : List ℕ) (e : Edition) (k each : ℕ) (bytes : List ℕ) (at i : ℕ) → Filling file e k each bytes at i → each ≡ per_record e → length bytes ≡ 84
row_long file e k each bytes at i f q = ap length f.bytes_are ∙ length-row e (take i (layers_in file k)) (omega (arith, most i (layers_in file k), f.below))

module _ (file : List ℕ) (e : Edition) (k each : ℕ) (bytes : List ℕ) (at i : ℕ) (g : Filling file e k each bytes at i) (each-is : each ≡ per_record e) where
  abbrev ls : List Layer
  ls = layers_in file k

  -- a layer is there
  module _ (n : LayerNumbers) (f : FirstLayer file e at n) where
    found : drop i ls ≡ f.layer ∷ layers_in file (behind_layer e n)
    found = sym g.left ∙ f.split

    one_left : i < length ls
    one_left = omega (arith, length-drop i ls, ap length found)

    parts : get_or ls i no_layer ∷ drop (suc i) ls ≡ f.layer ∷ layers_in file (behind_layer e n)
    parts = sym (drop-cons ls i no_layer one_left) ∙ found

    is_l : get_or ls i no_layer ≡ f.layer
    is_l = let p : get_or ls i no_layer ∷ drop (suc i) ls ≡ f.layer ∷ layers_in file (behind_layer e n) = parts in let q : get_or ls i no_layer ≡ f.layer = cc in q

    others : drop (suc i) ls ≡ layers_in file (behind_layer e n)
    others = let p : get_or ls i no_layer ∷ drop (suc i) ls ≡ f.layer ∷ layers_in file (behind_layer e n) = parts in let q : drop (suc i) ls ≡ layers_in file (behind_layer e n) = cc in q

    -- its numbers have at most seven digits
    pub layer-small : length (records_of Plain file) ≤ 200000 → SmallNumbers e n
    unfolding Short listed_of
    layer-small few = by e f.numbers_are_lem (short-listed e f.layer (subst DirectoryRecords.Fits is_l (fit_at i ls (layers-fit 0 (suc k) (views_in file k) (many few)) one_left)))
      where
        many : length (records_of Plain file) ≤ 200000 → suc k + length (views_in file k) ≤ 10000000
        many few = go (ltb k (length (records_of Plain file))) refl
          where
            go : (t : Bool) → ltb k (length (records_of Plain file)) ≡ t → suc k + length (views_in file k) ≤ 10000000
            go true h = omega (arith, views_count file k, ltb-true k (length (records_of Plain file)) h)
            go false h = absurd (omega (arith, one_left, ap length (none_over file k (ltb-false k (length (records_of Plain file)) h))))

        by : (e : Edition) → listed_of e n ≡ listed e f.layer → Short (listed e f.layer) → SmallNumbers e n
        by One q s = let h : n.header ≡ f.layer.header = cc in omega (arith, s.0)
        by Two q s =
            let h : n.header ≡ f.layer.header = cc in
            let t : n.total ≡ total_of f.layer = cc in
            let l : n.last ≡ last_of f.layer = cc in
            (omega (arith, s.0), omega (arith, s.1.0), omega (arith, s.1.1.0))

    taken_more : take (i + 1) ls ≡ take i ls ++ (f.layer ∷ [])
    taken_more = ap (λ (m : ℕ). take m ls) (add-one i) ∙ take-suc ls i no_layer one_left ∙ ap (λ (x : Layer). take i ls ++ (x ∷ [])) is_l

    listed_more : (g : List Layer) (l : Layer) → listed_all e (g ++ (l ∷ [])) ≡ listed_all e g ++ listed e l
    listed_more [] l = append-nil (listed e l)
    listed_more (x ∷ g) l = ap (λ (ns : List ℕ). listed e x ++ ns) (listed_more g l) ∙ sym (append_assoc (listed e x) (listed_all e g) (listed e l))

    listed_long : length (listed_all e (take i ls)) ≡ per_layer e * i
    listed_long = length-listed_all e (take i ls) ∙ ap (λ (m : ℕ). per_layer e * m) (length-take-le i ls (omega (arith, one_left)))

    pub layer_added : i < each → (after : List ℕ) (next : ℕ) → after ≡ layer_put e i n bytes → next ≡ behind_layer e n → Filling file e k each after next (i + 1)
    unfolding row layer_put
    layer_added h after next q next-is = record {
      below = omega arith;
      taken = omega (arith, one_left);
      left = ap (layers_in file) next-is ∙ sym others ∙ ap (λ (m : ℕ). drop m ls) (sym (add-one i));
      bytes_are =
          q
          ∙ ap₂ (λ (ns b : List ℕ). numbers_put (per_layer e * i) ns b) f.numbers_are_lem g.bytes_are
          ∙ ap (λ (m : ℕ). numbers_put m (listed e f.layer) (record_of (letters e) (listed_all e (take i ls)))) (sym listed_long)
          ∙ numbers_added (letters e) (listed_all e (take i ls)) (listed e f.layer) (two_letters e) (omega (arith, listed_long, length-listed e f.layer, row_fits e (i + 1) (omega (arith, each-is))))
          ∙ ap (record_of (letters e)) (sym (listed_more (take i ls) f.layer))
          ∙ ap (λ (x : List Layer). record_of (letters e) (listed_all e x)) (sym taken_more);
    }

  -- no layer is left
  module _ (none : layers_in file at ≡ []) where
    none_left : drop i ls ≡ []
    none_left = sym g.left ∙ none

    all_taken : length ls ≤ i
    all_taken = omega (arith, length-drop i ls, ap length none_left)

    pub last_row : RowFrom file e k (record { bytes = bytes; next = at })
    last_row = record {
      bytes_are = g.bytes_are ∙ ap (row e) (take_all i ls all_taken ∙ sym (take_all (per_record e) ls (omega (arith, all_taken, g.below, each-is))));
      left = none ∙ sym (drop_of_length-le ls (let x : length ls ≤ per_record e = omega (arith, all_taken, g.below, each-is) in x));
    }
