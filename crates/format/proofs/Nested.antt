-- The flat walk and the nested bodies are the same. Assumes nothing.
use mathlib.Core.Path.{◌≡◌, refl, ap, sym, subst, ◌∙◌}
use mathlib.Core.Bool.{Bool, true, false, cond, ◌&&◌}
use mathlib.Core.List.{List, [], ◌∷◌, ◌++◌, append_assoc, append-nil}
use Prim.Native.Nat.{ℕ, zero, suc, pred, ◌+◌, ◌-◌, ◌≤◌}
use native.Mathlib.Omega.{arith}
use lib.Dec.{leb}
use lib.ListN.{length}
use borrow.Author.Tests.{leb-true, le-leb, eq-eqb, ne_eqb}
use Rattle.format.specs.Basics.{none}
use Rattle.format.specs.Record.{Data, nothing, View, is_head}
use Rattle.format.specs.Judge.{File, walk, level_ok, lowest_level, highest_level, open_after, due_after, headers_and_items, count_under}
use Rattle.format.specs.Edit.{due_behind, open_behind, not_below}
use Rattle.format.specs.Nested.{Body, empty, with_item, with_group, directly, one_of_kind, InLevels, AllDeeper, NextAtMost, BodyBehind}
use Rattle.format.proofs.Basics.{and-true, true_and}
use Rattle.format.proofs.JudgeWalks.{Passes, Walks, walk-passes, Good, good, sort, reopen, passes-split, headers_and_items-append, due_behind-append}
use Rattle.format.proofs.JudgeSteps.{count_under-low}
use Rattle.format.proofs.EditItems.{headers_and_items_data, item-data_records}
use Rattle.format.proofs.Above.{data_records-head}

-- a level that the rule allows
pub record Allowed (opened : ℕ) (r : View) : Type 0 where
  pub low : lowest_level r.kind ≤ r.level
  pub high : r.level ≤ highest_level r.kind
  pub near : r.level ≤ suc opened

allowed : (opened : ℕ) (r : View) → level_ok opened r ≡ true → Allowed opened r
allowed opened r e =
    let a = and-true (leb (lowest_level r.kind) r.level && leb r.level (highest_level r.kind)) (leb r.level (suc opened)) e in
    let b = and-true (leb (lowest_level r.kind) r.level) (leb r.level (highest_level r.kind)) a.0 in
    record { low = leb-true _ _ b.0; high = leb-true _ _ b.1; near = leb-true _ _ a.1 }

allows : (opened : ℕ) (r : View) → Allowed opened r → level_ok opened r ≡ true
allows opened r a = true_and _ _ (true_and _ _ (le-leb _ _ a.low) (le-leb _ _ a.high)) (le-leb _ _ a.near)

-- ---- from flat to nested: what follows at an open level is the rest of the body of that level, then that of the level above, and so on
data Spine : (level : ℕ) → List View → Type 0 where
  last : {records : List View} → Body 0 records → Spine 0 records
  more : {level : ℕ} {inside rest : List View} → Body (suc level) inside → Spine level rest → Spine (suc level) (inside ++ rest)

-- one header or item more in front, that belongs to the body of its level
add-item : (level : ℕ) (r : View) (ds rest : List View) → is_head r.kind ≡ false → r.level ≡ suc level → 2 ≤ r.level → r.level ≤ 9 → length ds ≡ r.data_records → Spine level rest → Spine level (r ∷ ds ++ rest)
add-item level r ds rest i l low high w (last b) = last (with_item r ds i l low high w b)
add-item level r ds rest i l low high w (more {inside = inside} {rest = rest'} b s) = rw (sym (append_assoc (r ∷ ds) inside rest')) (more (with_item r ds i l low high w b) s)

add_group : (level : ℕ) (h : View) (rest : List View) → is_head h.kind ≡ true → h.level ≡ suc level → h.level ≤ 8 → Spine (suc level) rest → Spine level (h ∷ rest)
add_group level h rest i l high (more {inside = inside} b (last c)) = last (with_group h i l high b c)
add_group level h rest i l high (more {inside = inside} b (more {inside = inside'} {rest = rest'} c s)) = rw (sym (append_assoc (h ∷ inside) inside' rest')) (more (with_group h i l high b c) s)

-- bodies that end at once
ended : (level : ℕ) → Spine level []
ended zero = last empty
ended (suc level) = more empty (ended level)

lift : (up level opened : ℕ) (records : List View) → level + up ≡ opened → Spine level records → Spine opened records
lift zero level opened records e s = let same : level ≡ opened = omega arith in rw same at s
lift (suc up) level zero records e s = absurd (omega arith)
lift (suc up) level (suc opened) records e s = more empty (lift up level opened records (omega arith) s)

raised : (level opened : ℕ) (records : List View) → level ≤ opened → Spine level records → Spine opened records
raised level opened records h s = lift (opened - level) level opened records (omega arith) s

-- so many data records, and the spine behind them
record Parsed (opened due : ℕ) (records : List View) : Type 0 where
  held : List View
  rest : List View
  whole : records ≡ held ++ rest
  many : length held ≡ due
  spine : Spine opened rest

none_held : (opened : ℕ) (records : List View) → Parsed opened 0 records → Spine opened records
none_held opened records p = go p.held p.whole p.many
  where
    go : (held : List View) → records ≡ held ++ p.rest → length held ≡ 0 → Spine opened records
    go [] e m = rw e p.spine
    go (d ∷ held) e m = absurd (omega arith)

begin : (opened : ℕ) (records : List View) → Spine opened records → Parsed opened 0 records
begin opened records s = record { held = []; rest = records; whole = refl; many = refl; spine = s }

parse : (opened due : ℕ) (records : List View) → InLevels opened due records → Parsed opened due records
parse opened zero [] e = begin opened [] (ended opened)
parse opened (suc due) [] e = absurd (omega arith)
parse opened zero (r ∷ rs) w = step (is_head r.kind) refl (parse (open_after opened zero r) (due_after zero r) rs w.1)
  where
    a : Allowed opened r
    a = allowed opened r w.0

    step : (t : Bool) → is_head r.kind ≡ t → Parsed (open_after opened zero r) (due_after zero r) rs → Parsed opened zero (r ∷ rs)
    step true e p = begin opened (r ∷ rs) (raised (pred r.level) opened (r ∷ rs) (omega (arith, a.near)) (add_group (pred r.level) r rs e one (rw e at a.high) (rw one at (none_held r.level rs (rw e at p)))))
      where
        one : r.level ≡ suc (pred r.level)
        one = let low : 1 ≤ r.level = rw e at a.low in omega arith
    step false e p = begin opened (r ∷ rs) (raised (pred r.level) opened (r ∷ rs) (omega (arith, a.near)) (rw q.whole (add-item (pred r.level) r q.held q.rest e (omega (arith, low)) low (rw e at a.high) q.many q.spine)))
      where
        q : Parsed (pred r.level) r.data_records rs
        q = rw e at p

        low : 2 ≤ r.level
        low = rw e at a.low
parse opened (suc due) (r ∷ rs) w =
    let p = parse opened due rs w in
    record { held = r ∷ p.held; rest = p.rest; whole = ap (λ (l : List View). r ∷ l) p.whole; many = ap suc p.many; spine = p.spine }

pub nested : (records : List View) → InLevels 0 0 records → Body 0 records
nested records w = go (none_held 0 records (parse 0 0 records w))
  where
    go : {rs : List View} → Spine 0 rs → Body 0 rs
    go (last b) = b

-- ---- from nested to flat
skip_data : (opened due : ℕ) (ds rest : List View) → length ds ≡ due → InLevels opened 0 rest → InLevels opened due (ds ++ rest)
skip_data opened zero [] rest e w = w
skip_data opened (suc due) [] rest e w = absurd (omega arith)
skip_data opened zero (d ∷ ds) rest e w = absurd (omega arith)
skip_data opened (suc due) (d ∷ ds) rest e w = skip_data opened due ds rest (omega arith) w

levels : {level : ℕ} {records : List View} → Body level records → (opened : ℕ) → level ≤ opened → (behind : List View) → ((opened' : ℕ) → level ≤ opened' → InLevels opened' 0 behind) → InLevels opened 0 (records ++ behind)
levels empty opened h behind k = k opened h
levels {level} (with_item {rest = rest} r ds i l low high w b) opened h behind k = (allows opened r (record { low = rw i low; high = rw i high; near = omega (arith, l) }), rw (i, append_assoc ds rest behind) (skip_data (pred r.level) r.data_records ds (rest ++ behind) w (levels b (pred r.level) (omega (arith, l)) behind k)))
levels {level} (with_group {inside = inside} {rest = rest} g i l high b c) opened h behind k = (allows opened g (record { low = rw i (omega (arith, l)); high = rw i high; near = omega (arith, l) }), rw (i, append_assoc inside rest behind) (levels b g.level (omega (arith, l)) (rest ++ behind) (λ opened' h'. levels c opened' (omega arith) behind k)))

pub flat : (records : List View) → Body 0 records → InLevels 0 0 records
flat records b = rw (append-nil records) at (levels b 0 (omega arith) [] (λ opened h. refl))

-- ---- a walk that passes keeps the levels
pub walk_levels : (o n : ℕ) (s : Data) (rs : List View) → Passes o n s rs → due_behind n rs ≡ 0 → InLevels o n rs
walk_levels o n s [] p e = e
walk_levels o zero s (r ∷ rs) p e = (allows o r (record { low = g.low; high = g.high; near = g.near }), walk_levels _ _ _ rs p.1 e)
  where
    g : Good o r
    g = good o s r p.0
walk_levels o (suc n) s (r ∷ rs) p e = walk_levels _ _ _ rs p.1 e

-- ---- the headers and items of a body
due_none : {level : ℕ} {records : List View} → Body level records → due_behind 0 records ≡ 0
due_none empty = refl
due_none (with_item {rest = rest} r ds i l low high w b) = ap (λ (n : ℕ). due_behind n (ds ++ rest)) (item-data_records r i) ∙ skip r.data_records ds rest w ∙ due_none b
  where
    skip : (due : ℕ) (ds rest : List View) → length ds ≡ due → due_behind due (ds ++ rest) ≡ due_behind 0 rest
    skip zero [] rest e = refl
    skip (suc due) [] rest e = absurd (omega arith)
    skip zero (d ∷ ds) rest e = absurd (omega arith)
    skip (suc due) (d ∷ ds) rest e = skip due ds rest (omega arith)
due_none (with_group {inside = inside} {rest = rest} h i l high b c) = ap (λ (n : ℕ). due_behind n (inside ++ rest)) (data_records-head h i) ∙ due_behind-append 0 inside rest ∙ rw (due_none b) (due_none c)

item-entries : (r : View) (ds rest : List View) → is_head r.kind ≡ false → length ds ≡ r.data_records → headers_and_items 0 (r ∷ ds ++ rest) ≡ r ∷ headers_and_items 0 rest
item-entries r ds rest i w = ap (λ (n : ℕ). r ∷ headers_and_items n (ds ++ rest)) (item-data_records r i) ∙ ap (λ (l : List View). r ∷ l) (headers_and_items_data r.data_records ds rest w)

group_entries : {level : ℕ} {inside : List View} (h : View) (rest : List View) → is_head h.kind ≡ true → Body level inside → headers_and_items 0 (h ∷ inside ++ rest) ≡ h ∷ headers_and_items 0 inside ++ headers_and_items 0 rest
group_entries {inside = inside} h rest i b = ap (λ (n : ℕ). h ∷ headers_and_items n (inside ++ rest)) (data_records-head h i) ∙ ap (λ (l : List View). h ∷ l) (headers_and_items-append 0 inside rest ∙ rw (due_none b))

both_deeper : (level : ℕ) (a b : List View) → AllDeeper level a → AllDeeper level b → AllDeeper level (a ++ b)
both_deeper level [] b p q = q
both_deeper level (r ∷ a) b p q = (p.0, both_deeper level a b p.1 q)

deeper : {level : ℕ} {records : List View} → Body level records → (above : ℕ) → above ≤ level → AllDeeper above (headers_and_items 0 records)
deeper empty above h = tt
deeper (with_item {rest = rest} r ds i l low high w b) above h = subst (AllDeeper above) (sym (item-entries r ds rest i w)) (omega (arith, l), deeper b above h)
deeper (with_group {inside = inside} {rest = rest} g i l high b c) above h = subst (AllDeeper above) (sym (group_entries g rest i b)) (omega (arith, l), both_deeper above (headers_and_items 0 inside) (headers_and_items 0 rest) (deeper b above (omega arith)) (deeper c above h))

-- ---- what follows a body
first_of : {level : ℕ} {inside : List View} → Body level inside → (rest : List View) → NextAtMost (suc level) rest → NextAtMost (suc level) (inside ++ rest)
first_of empty rest n = n
first_of (with_item r ds i l low high w b) rest n = omega (arith, l)
first_of (with_group h i l high b c) rest n = omega (arith, l)

looser : (level : ℕ) (rest : List View) → NextAtMost level rest → NextAtMost (suc level) rest
looser level [] n = tt
looser level (r ∷ rest) n = omega arith

next_of : {level : ℕ} {rest : List View} → Spine level rest → NextAtMost (suc level) rest
next_of (last {records = records} b) = rw (append-nil records) at (first_of b [] tt)
next_of (more {rest = rest} b s) = first_of b rest (looser _ rest (next_of s))

pub behind-header : (level : ℕ) (behind : List View) → 1 ≤ level → InLevels level 0 behind → BodyBehind level behind
behind-header zero behind low w = absurd (omega arith)
behind-header (suc level) behind low w = go (none_held (suc level) behind (parse (suc level) 0 behind w))
  where
    go : {rs : List View} → Spine (suc level) rs → BodyBehind (suc level) rs
    go (more {inside = inside} {rest = rest} b s) = record { inside = inside; rest = rest; whole = refl; body = b; deeper = deeper b (suc level) (omega arith); next = next_of s }

-- ---- what a header counts stands directly in its body
counts-deeper : (level kind : ℕ) (a b : List View) → AllDeeper (suc level) a → count_under level kind (a ++ b) ≡ count_under level kind b
counts-deeper level kind [] b d = refl
counts-deeper level kind (r ∷ a) b d = rw (ne_eqb r.level (suc level) (λ e. omega (arith, d.0)), ne_eqb r.level level (λ e. omega (arith, d.0))) (no_header (is_head r.kind) (counts-deeper level kind a b d.1))
  where
    no_header : (t : Bool) → count_under level kind (a ++ b) ≡ count_under level kind b → cond (t && false) 0 (0 + count_under level kind (a ++ b)) ≡ count_under level kind b
    no_header true e = omega arith
    no_header false e = omega arith

counts-directly : {level : ℕ} {records : List View} (b : Body level records) (kind : ℕ) (after : List View) → count_under level kind (headers_and_items 0 records ++ after) ≡ directly kind b + count_under level kind after
counts-directly empty kind after = omega arith
counts-directly {level} (with_item {rest = rest} r ds i l low high w b) kind after = ap (λ (es : List View). count_under level kind (es ++ after)) (item-entries r ds rest i w) ∙ rw (i, eq-eqb r.level (suc level) l) (ap (λ (n : ℕ). one_of_kind kind r + n) (counts-directly b kind after) ∙ omega arith)
counts-directly {level} (with_group {inside = inside} {rest = rest} h i l high b c) kind after = ap (λ (es : List View). count_under level kind (es ++ after)) (group_entries h rest i b) ∙ ap (λ (es : List View). count_under level kind (h ∷ es)) (append_assoc (headers_and_items 0 inside) (headers_and_items 0 rest) after) ∙ rw (i, ne_eqb h.level level (λ e. omega (arith, l)), eq-eqb h.level (suc level) l) (ap (λ (n : ℕ). one_of_kind kind h + n) (counts-deeper level kind (headers_and_items 0 inside) (headers_and_items 0 rest ++ after) (deeper b (suc level) (omega arith)) ∙ counts-directly c kind after) ∙ omega arith)

not_above : (level : ℕ) (rest : List View) → NextAtMost (suc level) rest → not_below (suc level) rest ≡ true
not_above level [] n = refl
not_above level (r ∷ rest) n = le-leb r.level (suc level) n

pub counted_directly : (level kind : ℕ) (behind : List View) (o : ℕ) (s : Data) → 1 ≤ level → Passes o 0 s behind → (b : BodyBehind level behind) → count_under level kind (headers_and_items 0 behind) ≡ directly kind b.body
counted_directly zero kind behind o s low p b = absurd (omega arith)
counted_directly (suc level) kind behind o s low p b = ap (λ (l : List View). count_under (suc level) kind (headers_and_items 0 l)) b.whole ∙ ap (count_under (suc level) kind) entries ∙ counts-directly b.body kind (headers_and_items 0 b.rest) ∙ rw (count_under-low (suc level) kind level 0 s b.rest (omega arith) (reopen _ level _ s b.rest (not_above level b.rest b.next) (rw (due_none b.body) at halves.1))) (omega arith)
  where
    entries : headers_and_items 0 (b.inside ++ b.rest) ≡ headers_and_items 0 b.inside ++ headers_and_items 0 b.rest
    entries = headers_and_items-append 0 b.inside b.rest ∙ rw (due_none b.body)

    halves : Passes o 0 s b.inside × Passes (open_behind o 0 b.inside) (due_behind 0 b.inside) (sort 0 s b.inside) b.rest
    halves = passes-split o 0 s b.inside b.rest (rw b.whole at p)

-- ---- in a body that passes stage two
module _ (f : File) (e : walk 0 0 nothing 0 (suc f.part_length) f.body ≡ none) where
  walks : Walks 0 0 nothing f.body
  walks = walk-passes 0 0 nothing 0 (suc f.part_length) f.body e

  pub walk-body : Body 0 f.body
  walk-body = nested f.body (walk_levels 0 0 nothing f.body walks.0 walks.1)

  module _ (P Q : List View) (h : View) (is : f.body ≡ P ++ h ∷ Q) (due : due_behind 0 P ≡ 0) (hh : is_head h.kind ≡ true) where
    behind : Passes (open_behind 0 0 P) (due_behind 0 P) (sort 0 nothing P) (h ∷ Q)
    behind = (passes-split 0 0 nothing P (h ∷ Q) (rw is at walks.0)).1

    low : 1 ≤ h.level
    low = rw hh at (good (open_behind 0 0 P) (sort 0 nothing P) h (rw due at behind).0).low

    Q_passes : Passes h.level 0 h.data_held Q
    Q_passes = rw hh at (rw due at behind).1

    Q_due : due_behind 0 Q ≡ 0
    Q_due = sym (ap (due_behind 0) is ∙ due_behind-append 0 P (h ∷ Q) ∙ rw (due, data_records-head h hh)) ∙ walks.1

    pub behind-at : BodyBehind h.level Q
    behind-at = behind-header h.level Q low (walk_levels h.level 0 h.data_held Q Q_passes Q_due)

    pub counted_at : (b : BodyBehind h.level Q) (kind : ℕ) → count_under h.level kind (headers_and_items 0 Q) ≡ directly kind b.body
    counted_at b kind = counted_directly h.level kind Q h.level h.data_held low Q_passes b
