-- The loop of `walk_layers`: its invariant, and what it ensures at each way out. Assumes nothing.
use Rattle.std.specs.Prelude.{Option, Some, None, Ok, Err}
use Rattle.std.specs.Bool.{then_some}
use Rattle.std.specs.Option.{option_or}
use mathlib.Core.Path.{◌≡◌, refl, sym, ap, ap₂, subst, ◌∙◌}
use mathlib.Core.Logic.{◌⊎◌, inl, inr}
use mathlib.Core.Bool.{Bool, true, false, cond, not}
use mathlib.Core.List.{List, [], ◌∷◌, ◌++◌, append_assoc, append-nil}
use Prim.Native.Nat.{ℕ, zero, suc, ◌+◌, ◌-◌, ◌*◌, ◌/◌, ◌^◌, ◌≤◌, ◌<◌}
use mir.Syntax.{w64}
use mir.Val.{Fits}
use native.Mathlib.Omega.{arith}
use native.Mathlib.Nat.{zero-add}
use native.Mathlib.Numerals.{add-one}
use borrow.Author.Tests.{lt-ltb, le-ltb, ltb-true, ltb-false, eq-eqb}
use lib.Dec.{ltb}
use lib.ListN.{length, length-append, set, replicate}
use lib.Seq.{set_at}
use Rattle.format.specs.Basics.{fault, first, unless, chunks}
use Rattle.format.specs.Reasons.{refusal_number}
use Rattle.format.specs.declared.Refusal.{Refusal}
use Rattle.format.specs.Record.{Kind, head, item, neither, nothing, is_head, View, view}
use Rattle.format.specs.Judge.{lowest_level, fault_at, due_after, headers_and_items, is_header_at, items}
use Rattle.format.proofs.Basics.{first_alone, true_and}
use Rattle.format.proofs.Above.{data_records-head}
use Rattle.format.proofs.JudgeWalks.{good}
use Rattle.format_directory.specs.declared.Edition.{Edition}
use Rattle.format_directory.specs.declared.Edition.TheVariants.{One, Two}
use Rattle.format_directory.specs.Directory.{Layer, layer_body, layers_from, total_of, last_of, listed, per_layer}
use Rattle.format_directory.proofs.DirectoryRecords.{length-listed}
use Rattle.format_directory.proofs.DirectoryBodies.{layer-last, layer-total}
use Rattle.files.specs.declared.Stride.TheVariants.{Plain}
use Rattle.files.specs.Records.{records_of}
use Rattle.files.proofs.Records.{plain-records}
use Rattle.directory_columns.specs.declared.LayerNumbers.{LayerNumbers}
use Rattle.directory_columns.specs.PackedColumns.{packed_number, packed_near}
use Rattle.directory_columns.specs.Numbers.{listed_of, lists_layer, packed_of, lists_packed}
use Rattle.directory_columns.proofs.PackedColumns.{near_is}
use Rattle.directory_columns.proofs.Numbers.{nothing-lists, lists-packed}
use Rattle.records.specs.declared.items.Entry as Items
use Rattle.judge.specs.declared.body_records.Extent.{Extent}
use Rattle.judge.specs.declared.walk.Seen.{Seen}
use Rattle.judge.specs.declared.walk.WalkedGroup as Walk
use Rattle.judge.specs.Listed.{first_unlisted, first_numbers, kept_layers, unlisted_said}
use Rattle.judge.specs.Walks.{ExtentOf, record_at, views_from, fault_from, seen_none, SeenUpTo, EntryDue, WalkedGroup, WalkedLayers, JoinsTo, SeesTo, HeaderAt, Child, WholeListed, layers_at, entries, put_in, kept_in, passed_layers_of, group_said, layers_said}
use Rattle.format.proofs.Reasons.{not_zero}
use Rattle.judge.proofs.Steps.{views_more, views_end, fault-here}
use Rattle.judge.proofs.PlaceLaws.{length_views}
use Rattle.judge.proofs.EntryLaws.{due-sound, due-wrong}
use Rattle.judge.proofs.Joined.{joins-none, joins-more, sees_none, sees_more}

-- ---- `keep`
module _ (e : Edition) (kept : List ℕ) (layer : ℕ) (n : LayerNumbers) where
  kept-over : kept_layers e ≤ layer → kept ≡ kept_in e kept layer (listed_of e n)
  unfolding kept_in
  kept-over h = rw (le-ltb layer (kept_layers e) h)

  kept_there : layer < kept_layers e → put_in kept (per_layer e * layer) (listed_of e n) ≡ kept_in e kept layer (listed_of e n)
  unfolding kept_in
  kept_there h = rw (lt-ltb layer (kept_layers e) h)

  module _ (is : e ≡ One) where
    pub first-kept : layer < 33 → set kept layer n.header ≡ kept_in e kept layer (listed_of e n)
    unfolding listed_of
    first-kept h = ap (λ (k : ℕ). set kept k n.header) (let q : layer ≡ 1 * layer = omega arith in q) ∙ ap (λ (x : Edition). put_in kept (per_layer x * layer) (listed_of x n)) (sym is) ∙ kept_there (omega (arith, ap kept_layers is))

    pub first-over : 33 ≤ layer → kept ≡ kept_in e kept layer (listed_of e n)
    first-over h = kept-over (omega (arith, ap kept_layers is))

  module _ (is : e ≡ Two) where
    pub second_kept : layer < 11 → set (set (set kept (3 * layer) n.header) (3 * layer + 1) n.total) (3 * layer + 2) n.last ≡ kept_in e kept layer (listed_of e n)
    unfolding listed_of
    second_kept h = ap₂ (λ (j k : ℕ). set (set (set kept (3 * layer) n.header) j n.total) k n.last) (add-one (3 * layer)) (let q : 3 * layer + 2 ≡ suc (suc (3 * layer)) = omega arith in q) ∙ ap (λ (x : Edition). put_in kept (per_layer x * layer) (listed_of x n)) (sym is) ∙ kept_there (omega (arith, ap kept_layers is))

    pub second_over : 11 ≤ layer → kept ≡ kept_in e kept layer (listed_of e n)
    second_over h = kept-over (omega (arith, ap kept_layers is))

-- ---- what is listed of layers kept one after the other, from number n on
abbrev pub keep : Edition → (n : ℕ) → List ℕ → List Layer → List ℕ
keep e n kept [] = kept
keep e n kept (l ∷ ls) = keep e (suc n) (kept_in e kept n (listed e l)) ls

keep_over : (e : Edition) (n : ℕ) (kept : List ℕ) (ls : List Layer) → kept_layers e ≤ n → keep e n kept ls ≡ kept
unfolding kept_in
keep_over e n kept [] h = refl
keep_over e n kept (l ∷ ls) h = ap (λ (x : List ℕ). keep e (suc n) x ls) (rw (le-ltb n (kept_layers e) h)) ∙ keep_over e (suc n) kept ls (omega arith)

-- numbers put behind others, over as many
put-behind : (P ns zs : List ℕ) (k m : ℕ) → length P ≡ k → length ns ≡ m → put_in (P ++ (replicate m 0 ++ zs)) k ns ≡ (P ++ ns) ++ zs
put-behind P [] zs k zero p q = ap (λ (x : List ℕ). x ++ zs) (sym (append-nil P))
put-behind P [] zs k (suc m) p q = absurd (omega arith)
put-behind P (n ∷ ns) zs k zero p q = absurd (omega arith)
put-behind P (n ∷ ns) zs k (suc m) p q =
    ap (λ (x : List ℕ). put_in x (suc k) ns) (set_at P 0 (replicate m 0 ++ zs) n k p ∙ sym (append_assoc P (n ∷ []) (replicate m 0 ++ zs)))
    ∙ put-behind (P ++ (n ∷ [])) ns zs (suc k) m (length-append P (n ∷ []) ∙ (omega (arith, p))) (omega arith)
    ∙ ap (λ (x : List ℕ). x ++ zs) (append_assoc P (n ∷ []) ns)

-- behind those that are kept
keep_behind : (e : Edition) (P : List ℕ) (n room : ℕ) (ls : List Layer) → length P ≡ per_layer e * n → n + room ≡ kept_layers e → keep e n (P ++ first_numbers e room []) ls ≡ P ++ first_numbers e room ls
unfolding kept_in
keep_behind e P n room [] p q = refl
keep_behind e P n zero (l ∷ ls) p q = keep_over e n (P ++ []) (l ∷ ls) (omega arith)
keep_behind e P n (suc room) (l ∷ ls) p q =
    ap (λ (x : List ℕ). keep e (suc n) x ls) (rw (lt-ltb n (kept_layers e) (let h : n < kept_layers e = omega arith in h)) (put-behind P (listed e l) (first_numbers e room []) (per_layer e * n) (per_layer e) p (length-listed e l)))
    ∙ keep_behind e (P ++ listed e l) (suc n) room ls (length-append P (listed e l) ∙ (omega (arith, p, length-listed e l))) (omega arith)
    ∙ append_assoc P (listed e l) (first_numbers e room ls)

no_numbers_lem : (e : Edition) → replicate 33 0 ≡ first_numbers e (kept_layers e) []
no_numbers_lem One = refl
no_numbers_lem Two = refl

-- ---- the record at hand is the end, or the header of a layer
abbrev pub Starts : List ℕ → Extent → (at : ℕ) → Type 0
Starts file x at = (x.records ≤ at) ⊎ HeaderAt file x at 0

-- the walk of all layers that began at record k has come to record `at`
pub record Layering (file : List ℕ) (x : Extent) (k : ℕ) (directory : List (List ℕ)) (e : Edition) (at : ℕ) (low : Option ℕ) (s : Seen) (layers unlisted : ℕ) (first-numbers : List ℕ) : Type 0 where
  pub extent_of : ExtentOf file x
  pub few : k + layers ≤ at
  pub within : at ≤ x.records
  pub joins : JoinsTo file x k 0 at 0 low
  pub sees : SeesTo file x k (seen_none k) at s
  pub seen_then : SeenUpTo at s
  pub count : layers + length (layers_at file x at) ≡ length (layers_at file x k)
  -- where a layer ends is known when the next one begins
  pub first_is : Starts file x at → first unlisted (first_unlisted e directory layers (layers_at file x at)) ≡ first_unlisted e directory 0 (layers_at file x k)
  pub kept : Starts file x at → keep e layers first-numbers (layers_at file x at) ≡ first_numbers e (kept_layers e) (layers_at file x k)

pub layering : (file : List ℕ) (x : Extent) (k : ℕ) (directory : List (List ℕ)) (e : Edition) (s : Seen) → ExtentOf file x → k ≤ x.records → s ≡ seen_none k → Layering file x k directory e k None s 0 0 (replicate 33 0)
layering file x k directory e s extent_of h of = rw of (record {
  extent_of = extent_of;
  few = omega arith;
  within = h;
  joins = joins-none 0 (suc k) (views_from file x k);
  sees = sees_none x.before (suc k) (views_from file x k) (seen_none k);
  seen_then = record { few = omega arith; nine = refl };
  count = omega arith;
  first_is = λ h. refl;
  kept = λ h. ap (λ (x₁ : List ℕ). keep e 0 x₁ (layers_at file x k)) (no_numbers_lem e) ∙ keep_behind e [] 0 (kept_layers e) (layers_at file x k) (omega arith) (omega arith);
})

-- ---- at open level 0 nothing but the header of a layer passes
pub layer-header : (file : List ℕ) (x : Extent) (k : ℕ) → ExtentOf file x → k < x.records → (e : Items.Entry) → EntryDue file x k 0 (Ok e) → HeaderAt file x k 0
layer-header file x k extent_of here e due = go v.kind refl
  where
    v : View
    v = view (record_at file x k)

    well : fault_at 0 0 nothing v ≡ 0
    well = (due-sound file x k 0 extent_of here e due).well

    low : lowest_level v.kind ≤ v.level
    low = (good 0 nothing v well).low

    near : v.level ≤ 1
    near = (good 0 nothing v well).near

    go : (kind : Kind) → v.kind ≡ kind → HeaderAt file x k 0
    go head q = record { well = well; header = ap is_head q; deep = let l : 1 ≤ v.level = subst (λ (j : Kind). lowest_level j ≤ v.level) q low in omega (arith, near) }
    go (item j) q = let l : 2 ≤ v.level = subst (λ (j : Kind). lowest_level j ≤ v.level) q low in absurd (omega (arith, near))
    go neither q = let l : 2 ≤ v.level = subst (λ (j : Kind). lowest_level j ≤ v.level) q low in absurd (omega (arith, near))

first-first : (a b c : ℕ) → first a (first b c) ≡ first (first a b) c
first-first zero b c = refl
first-first (suc a) b c = refl

module _ (file : List ℕ) (x : Extent) (k : ℕ) (directory : List (List ℕ)) (e : Edition) (at : ℕ) (low : Option ℕ) (s : Seen) (layers unlisted : ℕ) (first-numbers : List ℕ) (g : Layering file x k directory e at low s layers unlisted first-numbers) where
  fails-at : (r : Refusal) → fault_from 0 (suc at) (views_from file x at) ≡ fault (refusal_number r.reason) r.at → WholeListed file x k directory e (layers_said (Err r))
  fails-at r q = record {
    whole = record {
      fails = λ h. g.joins.same ∙ q;
      passes = λ z. absurd (not_zero r.reason z);
      sees = λ z. absurd (not_zero r.reason z);
      seen_then = λ z. absurd (not_zero r.reason z);
    };
    listing = λ z. absurd (not_zero r.reason z);
  }

  -- the record at hand has a fault
  pub layers-fault : (r : Refusal) → at < x.records → EntryDue file x at 0 (Err r) → WholeListed file x k directory e (layers_said (Err r))
  layers-fault r h due = fails-at r (ap (fault_from 0 (suc at)) (views_more file x g.extent_of at h) ∙ fault-here 0 (suc at) (view (record_at file x at)) (views_from file x (at + 1)) (refusal_number r.reason) (due-wrong file x at 0 g.extent_of h r due) (not_zero r.reason) ∙ rw (due.1, add-one at))

  pub layer_stops : (r : Refusal) → Child file x at 0 s (group_said (Err r)) → WholeListed file x k directory e (layers_said (Err r))
  layer_stops r child = fails-at r (child.fails (not_zero r.reason))

  -- there is room for one layer more, and for the number of its header
  pub layer_below : layers < at + 1
  layer_below = omega (arith, g.few)

  module _ (here : at < x.records) (wide : length file < 2 ^ 64) where
    pub layers-fit : Fits w64 (layers + 1)
    layers-fit = record { fits = omega (arith, g.few, g.extent_of.few) }

  -- the layer at hand, with all that belongs to it
  module _ (w : Walk.WalkedGroup) (child : Child file x at 0 s (group_said (Ok w))) where
    abbrev c : WalkedGroup
    c = group_said (Ok w)

    pub layer_further : x.records - w.next < x.records - at
    layer_further = omega (arith, child.further refl, child.within refl)

    -- no fewer items than before
    pub items_left : s.items ≤ w.seen.items
    items_left = (child.sees refl).no_fewer

    module _ (here : at < x.records) (header : HeaderAt file x at 0) where
      abbrev rest : List View
      rest = views_from file x (at + 1)

      abbrev behind : List View
      behind = views_from file x c.next

      abbrev own-layer : Layer
      own-layer = record { header = suc at; body = layer_body 0 (views_from file x (at + 1)) }

      heads : views_from file x at ≡ view (record_at file x at) ∷ rest
      heads = views_more file x g.extent_of at here

      is_layer_lem : is_header_at 1 (view (record_at file x at)) ≡ true
      is_layer_lem = true_and _ _ header.header (eq-eqb _ 1 header.deep)

      all-layers : layers_at file x at ≡ own-layer ∷ layers_from 0 (suc (suc at)) rest
      all-layers = ap (layers_from 0 (suc at)) heads ∙ ap₂ (λ (t : Bool) (n : ℕ). cond t (record { header = suc at; body = layer_body 0 rest } ∷ []) [] ++ layers_from n (suc (suc at)) rest) is_layer_lem (data_records-head (view (record_at file x at)) header.header)

      same-layers : layers_from 0 (suc (suc at)) rest ≡ layers_at file x c.next
      same-layers = let q : own-layer ∷ layers_from 0 (suc (suc at)) rest ≡ own-layer ∷ layers_at file x c.next = sym all-layers ∙ child.layers refl refl in let r : layers_from 0 (suc (suc at)) rest ≡ layers_at file x c.next = cc in r

      own-items : items (entries (views_from file x at)) ≡ items (entries rest)
      own-items = ap (λ (l : List View). items (entries l)) heads ∙ ap₂ (λ (t : Bool) (n : ℕ). cond t 0 1 + items (headers_and_items n rest)) header.header (data_records-head (view (record_at file x at)) header.header) ∙ zero-add _

      module _ (starts : Starts file x c.next) where
        none_first : layer_body 0 behind ≡ []
        none_first = go starts
          where
            go : Starts file x c.next → layer_body 0 (views_from file x c.next) ≡ []
            go (inl end) = ap (layer_body 0) (views_end file x g.extent_of c.next end)
            go (inr h) = by (ltb c.next x.records) refl
              where
                by : (t : Bool) → ltb c.next x.records ≡ t → layer_body 0 (views_from file x c.next) ≡ []
                by false l = ap (layer_body 0) (views_end file x g.extent_of c.next (ltb-false c.next x.records l))
                by true l = ap (layer_body 0) (views_more file x g.extent_of c.next (ltb-true c.next x.records l)) ∙ ap (λ (t : Bool). cond t [] (view (record_at file x c.next) ∷ layer_body (due_after 0 (view (record_at file x c.next))) (views_from file x (c.next + 1)))) (true_and _ _ h.header (eq-eqb _ 1 h.deep))

        same_end : suc (suc at) + length rest ≡ suc c.next + length behind
        same_end = omega (arith, length_views file x g.extent_of (at + 1), length_views file x g.extent_of c.next, child.within refl)

        pub last_is : last_of own-layer ≡ c.next
        last_is = omega (arith, layer-last (suc at) rest (suc c.next) behind same-layers none_first same_end)

        pub total_is : total_of own-layer ≡ c.seen.items - s.items
        total_is = omega (arith, layer-total (suc at) rest (suc c.next) behind same-layers none_first same_end, own-items, (child.sees refl).all)

        pub numbers_are_lem : (n : LayerNumbers) → n ≡ record { header = at + 1; total = c.seen.items - s.items; last = c.next } → listed_of e n ≡ listed e own-layer
        unfolding listed_of
        numbers_are_lem n n-is = ap (listed_of e) n-is ∙ by e
          where
            by : (e : Edition) → listed_of e (record { header = at + 1; total = c.seen.items - s.items; last = c.next }) ≡ listed e own-layer
            by One = ap (λ (m : ℕ). m ∷ []) (add-one at)
            by Two = λ i. add-one at i ∷ sym total_is i ∷ sym last_is i ∷ []

      pub layer_goes : (low' : Option ℕ) (found : Bool) (unlisted' : ℕ) (n : LayerNumbers) → n ≡ record { header = at + 1; total = c.seen.items - s.items; last = c.next } → found ≡ lists_layer e directory layers (listed_of e n) → unlisted' ≡ first unlisted (unless found (layers + 1)) → low' ≡ option_or low c.low → (more : List ℕ) → more ≡ kept_in e first-numbers layers (listed_of e n) → Layering file x k directory e c.next low' c.seen (layers + 1) unlisted' more
      layer_goes low' found unlisted' n n-is lists-is un first-low more more-is =
          let own : ℕ = unless found (layers + 1) in
          let of : own ≡ unless (lists_layer e directory layers (listed_of e n)) (suc layers) = ap₂ unless lists-is (add-one layers) in
          let f = child.further refl in
          rw (first-low, un) (record {
            extent_of = g.extent_of;
            few = omega (arith, g.few);
            within = child.within refl;
            joins = joins-more 0 (suc k) _ (suc at) _ 0 _ _ _ _ g.joins (child.passes refl);
            sees = sees_more x.before (suc k) _ (seen_none k) (suc at) _ s _ _ _ g.sees (child.sees refl);
            seen_then = child.seen_then refl;
            count = omega (arith, g.count, ap length (child.layers refl refl));
            first_is = λ starts. sym (first-first unlisted own _) ∙ ap (first unlisted) (ap (λ (m : ℕ). first m (first_unlisted e directory (layers + 1) (layers_at file x c.next))) (of ∙ ap (λ (ns : List ℕ). unless (lists_layer e directory layers ns) (suc layers)) (numbers_are_lem starts n n-is)) ∙ ap (λ (m : ℕ). first (unless (lists_layer e directory layers (listed e own-layer)) (suc layers)) (first_unlisted e directory m (layers_at file x c.next))) (add-one layers) ∙ sym (ap (first_unlisted e directory layers) (child.layers refl refl))) ∙ g.first_is (inr header);
            kept = λ starts. ap₂ (λ (m : ℕ) (hs : List ℕ). keep e m hs (layers_at file x c.next)) (add-one layers) (more-is ∙ ap (kept_in e first-numbers layers) (numbers_are_lem starts n n-is)) ∙ sym (ap (keep e layers first-numbers) (child.layers refl refl)) ∙ g.kept (inr header);
          })

  -- the end
  module _ (end : x.records ≤ at) where
    over : at ≡ x.records
    over = omega (arith, g.within)

    none_left : layers_at file x at ≡ []
    none_left = rw (views_end file x g.extent_of at end)

    pub layers_end : WholeListed file x k directory e (passed_layers_of low s layers unlisted first-numbers)
    layers_end = record {
      whole = record {
        fails = λ h. absurd (h refl);
        passes = λ z. subst (λ (n : ℕ). JoinsTo file x k 0 n 0 low) over g.joins;
        sees = λ z. subst (λ (n : ℕ). SeesTo file x k (seen_none k) n s) over g.sees;
        seen_then = λ z. subst (λ (n : ℕ). SeenUpTo n s) over g.seen_then;
      };
      listing = λ z. record {
        count = omega (arith, g.count, ap length none_left);
        first_is = sym (first_alone unlisted) ∙ ap (λ (ls : List Layer). first unlisted (first_unlisted e directory layers ls)) (sym none_left) ∙ g.first_is (inl end);
        kept = sym (ap (keep e layers first-numbers) none_left) ∙ g.kept (inl end);
      };
    }

-- ---- the first layer that is not listed: one before, or this one where it is not
pub next_unlisted : (unlisted this : Option ℕ) (listed : Bool) (layer : ℕ) → this ≡ then_some (not listed) layer → unlisted_said (option_or unlisted this) ≡ first (unlisted_said unlisted) (unless listed (layer + 1))
next_unlisted None this true layer q = ap unlisted_said q
next_unlisted None this false layer q = ap unlisted_said q ∙ sym (add-one layer)
next_unlisted (Some n) this listed layer q = refl

-- ---- `compare`
module _ (e : Edition) (directory : List ℕ) (layer : ℕ) (n : LayerNumbers) where
  module _ (short : length directory < 84) where
    pub short-lists-none : false ≡ lists_layer e (records_of Plain directory) layer (listed_of e n)
    short-lists-none = sym (ap (λ (rs : List (List ℕ)). lists_layer e rs layer (listed_of e n)) (plain-records directory ∙ ap (λ (n : ℕ). chunks n directory) (let q : length directory / 84 ≡ 0 = omega arith in q)) ∙ nothing-lists e layer n)

    pub no_directory : (p : ℕ) → 84 ≤ length directory → p ≡ packed_number n.last
    no_directory p h = absurd (omega arith)

  -- the header's number from the one before it, and the last record's from the header's
  module _ (before h l : ℕ) (long : 84 ≤ length directory) (known : 84 ≤ length directory → before ≡ packed_number (n.header - 1)) (h-is : h ≡ packed_near n.header (n.header - 1) before) (l-is : l ≡ packed_near n.last n.header h) where
    header-packed : h ≡ packed_number n.header
    header-packed = h-is ∙ near_is n.header (n.header - 1) before (known long)

    last-packed : l ≡ packed_number n.last
    last-packed = l-is ∙ near_is n.last n.header h header-packed

    pub last_known : 84 ≤ length directory → l ≡ packed_number n.last
    last_known m = last-packed

    pub lists : (t : Bool) → t ≡ lists_packed e (records_of Plain directory) layer (packed_of e (record { header = h; total = n.total; last = l })) → t ≡ lists_layer e (records_of Plain directory) layer (listed_of e n)
    lists t t-is = t-is ∙ lists-packed e (records_of Plain directory) layer n (record { header = h; total = n.total; last = l }) header-packed refl last-packed

-- ---- the written form of the number before a header
pub begun_before : (directory : List ℕ) (k p : ℕ) → p ≡ packed_number k → 84 ≤ length directory → p ≡ packed_number k
begun_before directory k p e h = e

pub before-header : (directory : List ℕ) (at p : ℕ) → (84 ≤ length directory → p ≡ packed_number at) → 84 ≤ length directory → p ≡ packed_number (at + 1 - 1)
before-header directory at p e h = e h ∙ ap packed_number (let q : at ≡ at + 1 - 1 = omega arith in q)

-- ---- `walk_whole`
pub begun_layers : (file : List ℕ) (x : Extent) (k begun : ℕ) (directory : List (List ℕ)) (e : Edition) (w : WalkedLayers) → begun ≡ k → WholeListed file x begun directory e w → WholeListed file x k directory e w
begun_layers file x k begun directory e w begins walked = rw begins at walked
