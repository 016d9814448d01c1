-- From columns to bytes: an edit of the records, seen through the columns, is the edit of what is seen. Assumes nothing.
use mathlib.Core.Path.{◌≡◌, refl, ap, ◌∙◌}
use mathlib.Core.Bool.{Bool, true}
use mathlib.Core.List.{List, [], ◌∷◌, ◌++◌, map, map-append}
use Prim.Native.Nat.{ℕ, zero, suc, pred, ◌+◌, ◌-◌, ◌≤◌, ◌<◌}
use native.Mathlib.Omega.{arith}
use lib.ListN.{length, length-append, take, drop, get_or, take-append-drop, length-map, length-drop, get_or-append}
use lib.Seq.{length-take-le, drop_at}
use Rattle.format.specs.Basics.{fine}
use Rattle.format.specs.Judge.{File, file_of, headers_and_items, items, due_after, one_if_item}
use Rattle.format.specs.Record.{Data, Kind, View, as_data, head, is_head, item, neither, lower, nothing, raise, count_index, view}
use Rattle.format.specs.Edit.{RecordList, above_in, after, alter_at, before, absent, body_records, changed, removed, removed_item, inserted, body_place}
use Rattle.format.proofs.EditViews.{alter, change, cut, gone, less, more, put}
use Rattle.format.specs.Sheet.{stated_elements, part_length, sheet_fault, stated_records, write_counts}
use Rattle.format.proofs.JudgeWalks.{good}
use Rattle.format.proofs.Above.{Split}
use Rattle.format.proofs.JudgeAccepted.{Ok}
use Rattle.format.proofs.EditInsert.{Fits, sp, passed, above_counts, put_ok, above_is, above_good}
use Rattle.format.proofs.EditRemove.{Cuts, cut_ok, enough, parts, b_good, sp as cut-sp}
use Rattle.format.proofs.Lists.{wide_get, Wide, wide_append, wide_take, wide_drop, wide_alter, map-take, map-drop, map_alter, length-alter_at, get_or-alter_at}

-- the sheet part is in order
abbrev pub sheet_ok : List (List ℕ) → Bool
sheet_ok rs = fine (sheet_fault rs)

-- what the columns have to do for this
pub record Lawful : Type 0 where
  pub two : (rs : List (List ℕ)) → sheet_ok rs ≡ true → 2 ≤ part_length rs
  pub inside : (rs : List (List ℕ)) → sheet_ok rs ≡ true → part_length rs ≤ length rs
  pub part_length-kept : (rs X : List (List ℕ)) (e s : ℕ) → Wide rs → sheet_ok rs ≡ true → e ≤ 999999 → s ≤ 9999999 → part_length (alter_at (write_counts e s) 1 (take (part_length rs) rs) ++ X) ≡ part_length rs
  pub sheet-kept : (rs X : List (List ℕ)) (e s : ℕ) → Wide rs → sheet_ok rs ≡ true → e ≤ 999999 → s ≤ 9999999 → sheet_ok (alter_at (write_counts e s) 1 (take (part_length rs) rs) ++ X) ≡ true
  pub stated_elements-written : (e s : ℕ) (r : List ℕ) → length r ≡ 84 → e ≤ 999999 → stated_elements (write_counts e s r) ≡ e
  pub stated_records-written : (e s : ℕ) (r : List ℕ) → length r ≡ 84 → s ≤ 9999999 → stated_records (write_counts e s r) ≡ s
  pub raised : (j : ℕ) (r : List ℕ) → length r ≡ 84 → j ≤ 9 → is_head (view r).kind ≡ true → (view r).column_fault ≡ 0 → (view r).total + 1 ≤ 99999 → (j ≡ 9 → (view r).count j + 1 ≤ 9) → (view r).count j ≤ (view r).total → view (raise j r) ≡ more (as_data (raise j r)) j (view r)
  pub lowered : (j : ℕ) (r : List ℕ) → length r ≡ 84 → j ≤ 9 → is_head (view r).kind ≡ true → (view r).column_fault ≡ 0 → view (lower j r) ≡ less (as_data (lower j r)) j (view r)
  pub raise_wide : (j : ℕ) (r : List ℕ) → j ≤ 9 → length r ≡ 84 → length (raise j r) ≡ 84
  pub lower_wide : (j : ℕ) (r : List ℕ) → j ≤ 9 → length r ≡ 84 → length (lower j r) ≡ 84
  pub write_wide : (e s : ℕ) (r : List ℕ) → length r ≡ 84 → length (write_counts e s r) ≡ 84

-- the record list of an accepted sheet
pub record AcceptedList (g : RecordList) : Type 0 where
  pub wide : Wide g.records
  pub few : length g.records ≤ 200000
  pub sheet : sheet_ok g.records ≡ true
  pub ok : Ok (file_of g.records)

file_path : (a b : File) → a.part_length ≡ b.part_length → a.stated_elements ≡ b.stated_elements → a.stated_records ≡ b.stated_records → a.body ≡ b.body → a ≡ b
file_path a b p q r s = λ i. record { part_length = p i; stated_elements = q i; stated_records = r i; body = s i }

length_alter : (m : View → View) (i : ℕ) (l : List View) → length (alter m i l) ≡ length l
length_alter m i [] = refl
length_alter m zero (r ∷ l) = refl
length_alter m (suc i) (r ∷ l) = ap suc (length_alter m i l)

put-length : (f : File) (p : ℕ) (v : Data → ℕ → ℕ) (b : View) (ds : List View) → length (put f p v (b ∷ ds)).body ≡ length f.body + suc (length ds)
put-length f p v b ds = simp (length-append, length_alter) (omega (arith, simp length-append at (ap length (take-append-drop (body_place f p) f.body))))

cut-length : (f : File) (p : ℕ) (v : Data → ℕ → ℕ) → suc (gone f p).data_records ≤ length (after f p) → length (cut f p v).body ≡ length f.body - suc (gone f p).data_records
cut-length f p v h = rw (length-append (change (less v) (gone f p) (before f p)) (drop (suc (gone f p).data_records) (after f p)), length_alter (less v (count_index (gone f p).kind)) (pred (above_in (gone f p).level (before f p))) (before f p), length-drop (suc (gone f p).data_records) (after f p)) (omega (arith, simp length-append at (ap length (take-append-drop (body_place f p) f.body))))

-- no more items than records
pub items-few : (n : ℕ) (rs : List View) → items (headers_and_items n rs) ≤ length rs
items-few n [] = omega arith
items-few zero (r ∷ rs) = omega (arith, items-few (due_after 0 r) rs, one_most r.kind)
  where
    one_most : (k : Kind) → one_if_item k ≤ 1
    one_most head = omega arith
    one_most (item k) = omega arith
    one_most neither = omega arith
items-few (suc n) (r ∷ rs) = omega (arith, items-few n rs)

module _ (L : Lawful) where
  -- the sheet part written anew before any body
  module _ (g : RecordList) (k : AcceptedList g) (e s : ℕ) (e-fits : e ≤ 999999) (s-fits : s ≤ 9999999) (X : List (List ℕ)) where
    abbrev front : List (List ℕ)
    front = alter_at (write_counts e s) 1 (take (part_length g.records) g.records)

    front_length : length front ≡ part_length g.records
    front_length = rw (length-alter_at (write_counts e s) 1 (take (part_length g.records) g.records)) (length-take-le (part_length g.records) g.records (L.inside g.records k.sheet))

    second : get_or (front ++ X) 1 [] ≡ write_counts e s (get_or (take (part_length g.records) g.records) 1 [])
    second = get_or-append front X [] 1 (omega (arith, front_length, L.two g.records k.sheet)) ∙ get_or-alter_at (write_counts e s) 1 (take (part_length g.records) g.records) [] (omega (arith, length-take-le (part_length g.records) g.records (L.inside g.records k.sheet), L.two g.records k.sheet))

    second_wide : length (get_or (take (part_length g.records) g.records) 1 []) ≡ 84
    second_wide = wide_get 1 (take (part_length g.records) g.records) (wide_take (part_length g.records) g.records k.wide) (omega (arith, length-take-le (part_length g.records) g.records (L.inside g.records k.sheet), L.two g.records k.sheet))

    pub file-written : file_of (front ++ X) ≡ record { part_length = part_length g.records; stated_elements = e; stated_records = s; body = map view X }
    file-written = file_path _ _ (L.part_length-kept g.records X e s k.wide k.sheet e-fits s-fits) (rw second (L.stated_elements-written e s _ second_wide e-fits)) (rw second (L.stated_records-written e s _ second_wide s-fits)) (rw (L.part_length-kept g.records X e s k.wide k.sheet e-fits s-fits, drop_at front X (part_length g.records) front_length))

  -- insertion
  module _ (g : RecordList) (p : ℕ) (x : List ℕ) (xs : List (List ℕ)) (k : AcceptedList g) (t : Fits (before (file_of g.records) p) (after (file_of g.records) p) (view x) (map view xs) ((file_of g.records).part_length + length (file_of g.records).body + length (view x ∷ map view xs))) where
    -- the header that is written anew, as a data record
    abbrev says-more : Data → ℕ → ℕ
    says-more = as_data (raise (count_index (view x).kind) (get_or (take (body_place (file_of g.records) p) (body_records g p)) (pred (above_in (view x).level (before (file_of g.records) p))) []))

    above : Split (pred (view x).level) 0 (before (file_of g.records) p)
    above = sp (file_of g.records) p (view x) (map view xs) k.ok t

    pub changed-view : map view (changed g p raise (view x)) ≡ change (more says-more) (view x) (before (file_of g.records) p)
    unfolding above
    changed-view = map_alter view (raise (count_index (view x).kind)) (more says-more (count_index (view x).kind)) _ (take (body_place (file_of g.records) p) (body_records g p)) seen ∙ ap (λ (l : List View). alter (more says-more (count_index (view x).kind)) (pred (above_in (view x).level (before (file_of g.records) p))) l) (map-take view (body_place (file_of g.records) p) (body_records g p))
      where
        pre : List View
        pre = before (file_of g.records) p

        idx : ℕ
        idx = pred (above_in (view x).level (before (file_of g.records) p))

        seen : (y : List ℕ) → y ≡ get_or (take (body_place (file_of g.records) p) (body_records g p)) idx [] → view y ≡ get_or (map view (take (body_place (file_of g.records) p) (body_records g p))) idx absent → idx < length (take (body_place (file_of g.records) p) (body_records g p)) → view (raise (count_index (view x).kind) y) ≡ more says-more (count_index (view x).kind) (view y)
        seen y y-is e l = lawful ∙ ap (λ (z : List ℕ). more (as_data (raise (count_index (view x).kind) z)) (count_index (view x).kind) (view y)) y-is
          where
            is_pre : view y ≡ get_or pre idx absent
            is_pre = e ∙ ap (λ (z : List View). get_or z idx absent) (map-take view (body_place (file_of g.records) p) (body_records g p))

            is_it : view y ≡ above.it
            is_it = is_pre ∙ above_is (view x).level pre above

            lawful : view (raise (count_index (view x).kind) y) ≡ more (as_data (raise (count_index (view x).kind) y)) (count_index (view x).kind) (view y)
            lawful = L.raised (count_index (view x).kind) y (ap length y-is ∙ wide_get idx (take (body_place (file_of g.records) p) (body_records g p)) (search (wide_take, wide_drop, k.wide)) l) (good 8 nothing (view x) t.passes.0).known (rw is_it above.is_head_lem) (rw is_it (above_good _ pre above (passed (file_of g.records) p (view x) (map view xs) k.ok t))) (rw is_pre t.total-fits) (λ e₉. rw is_pre (t.nine_fits e₉)) (rw is_it (above_counts (file_of g.records) p (view x) (map view xs) k.ok t))

    stated_elements-few : (file_of g.records).stated_elements ≤ length (file_of g.records).body
    stated_elements-few = rw k.ok.stated_elements (items-few 0 (file_of g.records).body)

    pub put-file : file_of (inserted g p (x ∷ xs)).records ≡ put (file_of g.records) p says-more (view x ∷ map view xs)
    put-file = file-written g k _ _ (omega (arith, stated_elements-few, t.file-fits)) (omega (arith, k.ok.stated_records, t.file-fits, length-map xs view)) _ ∙ file_path _ _ refl refl (omega (arith, k.ok.stated_records, length-map xs view, put-length (file_of g.records) p says-more (view x) (map view xs))) bodies
      where
        bodies : map view (changed g p raise (view x) ++ (x ∷ xs ++ drop (body_place (file_of g.records) p) (body_records g p))) ≡ change (more says-more) (view x) (before (file_of g.records) p) ++ (view x ∷ map view xs ++ after (file_of g.records) p)
        bodies = rw (map-append view (changed g p raise (view x)) (x ∷ xs ++ drop (body_place (file_of g.records) p) (body_records g p)), changed-view, map-append view xs (drop (body_place (file_of g.records) p) (body_records g p)), map-drop view (body_place (file_of g.records) p) (body_records g p))

    pub put-accepted : Wide (x ∷ xs) → AcceptedList (inserted g p (x ∷ xs))
    put-accepted w = record {
      wide = let small : count_index (view x).kind ≤ 9 = (good 8 nothing (view x) t.passes.0).known in search (wide_append, wide_alter, wide_take, wide_drop, L.write_wide, L.raise_wide, k.wide) depth 8;
      few = simp (length-append, length-alter_at) (omega (arith, t.file-fits, length-map xs view, length-map (body_records g p) view, length-take-le (part_length g.records) g.records (L.inside g.records k.sheet), simp length-append at (ap length (take-append-drop (body_place (file_of g.records) p) (body_records g p)))));
      sheet = L.sheet-kept g.records _ _ _ k.wide k.sheet (omega (arith, stated_elements-few, t.file-fits)) (omega (arith, k.ok.stated_records, t.file-fits, length-map xs view));
      ok = rw put-file (put_ok (file_of g.records) p (view x) (map view xs) k.ok t says-more);
    }

  -- removal
  module _ (g : RecordList) (p : ℕ) (k : AcceptedList g) (t : Cuts (file_of g.records).body (body_place (file_of g.records) p)) where
    -- the header that is written anew, as a data record
    abbrev says_less : Data → ℕ → ℕ
    says_less = as_data (lower (count_index (removed_item g p).kind) (get_or (take (body_place (file_of g.records) p) (body_records g p)) (pred (above_in (removed_item g p).level (before (file_of g.records) p))) []))

    cut_above : Split (pred (removed_item g p).level) 0 (before (file_of g.records) p)
    cut_above = cut-sp (file_of g.records) p k.ok t

    pub changed_view' : map view (changed g p lower (removed_item g p)) ≡ change (less says_less) (removed_item g p) (before (file_of g.records) p)
    changed_view' = map_alter view (lower (count_index (removed_item g p).kind)) (less says_less (count_index (removed_item g p).kind)) _ (take (body_place (file_of g.records) p) (body_records g p)) seen ∙ ap (λ (l : List View). alter (less says_less (count_index (removed_item g p).kind)) (pred (above_in (removed_item g p).level (before (file_of g.records) p))) l) (map-take view (body_place (file_of g.records) p) (body_records g p))
      where
        pre : List View
        pre = before (file_of g.records) p

        idx : ℕ
        idx = pred (above_in (removed_item g p).level (before (file_of g.records) p))

        seen : (y : List ℕ) → y ≡ get_or (take (body_place (file_of g.records) p) (body_records g p)) idx [] → view y ≡ get_or (map view (take (body_place (file_of g.records) p) (body_records g p))) idx absent → idx < length (take (body_place (file_of g.records) p) (body_records g p)) → view (lower (count_index (removed_item g p).kind) y) ≡ less says_less (count_index (removed_item g p).kind) (view y)
        seen y y-is e l = lawful ∙ ap (λ (z : List ℕ). less (as_data (lower (count_index (removed_item g p).kind) z)) (count_index (removed_item g p).kind) (view y)) y-is
          where
            is_it : view y ≡ cut_above.it
            is_it = e ∙ ap (λ (z : List View). get_or z idx absent) (map-take view (body_place (file_of g.records) p) (body_records g p)) ∙ above_is (removed_item g p).level pre cut_above

            lawful : view (lower (count_index (removed_item g p).kind) y) ≡ less (as_data (lower (count_index (removed_item g p).kind) y)) (count_index (removed_item g p).kind) (view y)
            lawful = L.lowered (count_index (removed_item g p).kind) y (ap length y-is ∙ wide_get idx (take (body_place (file_of g.records) p) (body_records g p)) (search (wide_take, wide_drop, k.wide)) l) (b_good (file_of g.records) p k.ok t).known (rw is_it cut_above.is_head_lem) (rw is_it (above_good _ pre cut_above (parts (file_of g.records) p k.ok t).0))

    body-few : length (file_of g.records).body ≤ 200000
    body-few = rw (length-map (body_records g p) view, length-drop (part_length g.records) g.records) (omega (arith, k.few))

    stated_elements_few' : (file_of g.records).stated_elements ≤ length (file_of g.records).body
    stated_elements_few' = rw k.ok.stated_elements (items-few 0 (file_of g.records).body)

    pub cut-file : file_of (removed g p).records ≡ cut (file_of g.records) p says_less
    cut-file = file-written g k _ _ (omega (arith, stated_elements_few', body-few)) (omega (arith, k.ok.stated_records, body-few)) _ ∙ file_path _ _ refl refl (omega (arith, k.ok.stated_records, cut-length (file_of g.records) p says_less (enough (file_of g.records) p k.ok t))) bodies
      where
        bodies : map view (changed g p lower (removed_item g p) ++ drop (suc (removed_item g p).data_records) (drop (body_place (file_of g.records) p) (body_records g p))) ≡ change (less says_less) (removed_item g p) (before (file_of g.records) p) ++ drop (suc (removed_item g p).data_records) (after (file_of g.records) p)
        bodies = rw (map-append view (changed g p lower (removed_item g p)) (drop (suc (removed_item g p).data_records) (drop (body_place (file_of g.records) p) (body_records g p))), changed_view', map-drop view (suc (removed_item g p).data_records) (drop (body_place (file_of g.records) p) (body_records g p)), map-drop view (body_place (file_of g.records) p) (body_records g p))

    pub cut-accepted : AcceptedList (removed g p)
    cut-accepted = record {
      wide = let small : count_index (removed_item g p).kind ≤ 9 = (b_good (file_of g.records) p k.ok t).known in search (wide_append, wide_alter, wide_take, wide_drop, L.write_wide, L.lower_wide, k.wide) depth 8;
      few = simp (length-append, length-alter_at, length-drop) (omega (arith, k.few, L.inside g.records k.sheet, length-take-le (part_length g.records) g.records (L.inside g.records k.sheet), simp (length-append, length-drop) at (ap length (take-append-drop (body_place (file_of g.records) p) (body_records g p)))));
      sheet = L.sheet-kept g.records _ _ _ k.wide k.sheet (omega (arith, stated_elements_few', body-few)) (omega (arith, k.ok.stated_records, body-few));
      ok = rw cut-file (cut_ok (file_of g.records) p k.ok t says_less).0;
    }
