-- "We accept a directory exactly when it lists every layer header once, in order, and nothing else"; "exactly when all three numbers are right for each layer":
-- judging against these words, for every edition. Assumes nothing.
use mathlib.Core.Path.{◌≡◌, refl, ap, ap₂, sym, subst, ◌∙◌}
use mathlib.Core.Logic.{◌↔◌}
use mathlib.Core.Bool.{Bool, true, false, ◌&&◌}
use mathlib.Core.List.{List, [], ◌∷◌, ◌++◌, append-nil, map}
use Prim.Native.Nat.{ℕ, zero, suc, pred, ◌+◌, ◌-◌, ◌*◌, ◌/◌, ◌%◌, ◌≤◌, ◌<◌}
use native.Mathlib.Omega.{arith}
use lib.Dec.{eqb, leb, ltb}
use lib.ListN.{length, length-append, length-drop, length-map, take, drop, get_or, take-append-drop}
use lib.Seq.{drop_at, drop-drop, take_at, take_all, length-take-le, get_or-drop, get_or_at, ext_get_or}
use borrow.Author.Tests.{eqb-true, eq-eqb, ltb-true, ltb-false, leb-true, lt-ltb, le-leb}
use Rattle.format.specs.Text.{bytes}
use Rattle.format.specs.Basics.{given, member, chunks, round_up}
use Rattle.format.specs.Judge.{Counts, file_of, judge_sheet}
use Rattle.format.proofs.Basics.{and-true, true_and}
use Rattle.format.proofs.AcceptedSheet.{counted_are}
use Rattle.format.proofs.Lists.{length-chunks}
use Rattle.format_directory.specs.declared.Edition.{Edition}
use Rattle.format_directory.specs.declared.Edition.TheVariants.{One, Two}
use Rattle.format_directory.specs.Directory.{Layer, layers_of, total_of, last_of, letters, end_letters, per_layer, per_record, end_listed, listed_all, record_of, row, closing, shared, directory_of, last_record, pointer_in, sheet_in, directory_in, judge_directory, LayerEntry}
use Rattle.format_directory.specs.DirectoryChecks.{Rising, letter, most, numbers_of, closing_numbers, Full, joined, AllSpan, ListsLayers}
use Rattle.format_directory.proofs.RisingLists.{later, rising-same}
use Rattle.format_directory.proofs.DirectoryRecords.{row_fits, end_fits, length-end_listed, length-shared, get_or-shared, pointer_closing, directory_is, length_directory, row_at}
use Rattle.format_directory.proofs.DirectoryLayers.{headers, headers_rise, only_headers, every-header, entry_of, entries, all_span, same_entries}
use Rattle.format_directory.proofs.DirectoryColumns.{holds_record, record_holds}
use Rattle.format_directory.proofs.DirectoryJudged.{RightDirectory, Accepted, accepted_of, few-layers, accepted_exactly, last-behind}

-- ---- what an edition has of its own, in the words and in the definitions
pub most_is : (e : Edition) → most e ≡ per_record e
most_is One = refl
most_is Two = refl

some_each : (e : Edition) → 1 ≤ per_record e
some_each One = omega arith
some_each Two = omega arith

letters_are : (e : Edition) → letters e ≡ letter e ∷ 32 ∷ []
unfolding bytes
letters_are One = refl
letters_are Two = refl

pub end_letters_are : (e : Edition) → end_letters e ≡ letter e ∷ 69 ∷ []
unfolding bytes
end_letters_are One = refl
end_letters_are Two = refl

ends_are : (e : Edition) (p c : ℕ) → end_listed e p c ≡ closing_numbers e p c
ends_are One p c = refl
ends_are Two p c = refl

-- so many records: none for no layers, one more for each so many
round_none : (e : Edition) → round_up 0 (per_record e) ≡ 0
round_none One = omega arith
round_none Two = omega arith

round_more : (e : Edition) (n : ℕ) → 1 ≤ n → round_up n (per_record e) ≡ suc (round_up (n - per_record e) (per_record e))
round_more One n h = omega arith
round_more Two n h = omega arith

none_round : (e : Edition) (n : ℕ) → 0 ≡ round_up n (per_record e) → n ≡ 0
none_round One n q = omega (arith, q)
none_round Two n q = omega (arith, q)

one_round : (e : Edition) (n : ℕ) → 1 ≡ round_up n (per_record e) → (1 ≤ n) × (n ≤ per_record e)
one_round One n q = (omega (arith, q), omega (arith, q))
one_round Two n q = (omega (arith, q), omega (arith, q))

more_round : (e : Edition) (n k : ℕ) → suc (suc k) ≡ round_up n (per_record e) → (per_record e ≤ n) × (suc k ≡ round_up (n - per_record e) (per_record e))
more_round One n k q = (omega (arith, q), omega (arith, q))
more_round Two n k q = (omega (arith, q), omega (arith, q))

-- ---- the numbers of layers
pub length_headers : (ls : List Layer) → length (headers ls) ≡ length ls
length_headers [] = refl
length_headers (l ∷ ls) = ap suc (length_headers ls)

pub length-entries : (ls : List Layer) → length (entries ls) ≡ length ls
length-entries [] = refl
length-entries (l ∷ ls) = ap suc (length-entries ls)

pub entries_headers : (ls : List Layer) → numbers_of One (entries ls) ≡ headers ls
entries_headers [] = refl
entries_headers (l ∷ ls) = ap (λ (x : List ℕ). l.header ∷ x) (entries_headers ls)

entries-take : (n : ℕ) (ls : List Layer) → entries (take n ls) ≡ take n (entries ls)
entries-take zero ls = refl
entries-take (suc n) [] = refl
entries-take (suc n) (l ∷ ls) = ap (λ (x : List LayerEntry). entry_of l ∷ x) (entries-take n ls)

entries-drop : (n : ℕ) (ls : List Layer) → entries (drop n ls) ≡ drop n (entries ls)
entries-drop zero ls = refl
entries-drop (suc n) [] = refl
entries-drop (suc n) (l ∷ ls) = entries-drop n ls

-- what the definitions list of layers are the words' numbers
entries-listed : (e : Edition) (ls : List Layer) → listed_all e ls ≡ numbers_of e (entries ls)
entries-listed e [] = refl
entries-listed One (l ∷ ls) = ap (λ (x : List ℕ). l.header ∷ x) (entries-listed One ls)
entries-listed Two (l ∷ ls) = ap (λ (x : List ℕ). l.header ∷ total_of l ∷ last_of l ∷ x) (entries-listed Two ls)

length-numbers : (e : Edition) (ls : List LayerEntry) → length (numbers_of e ls) ≡ per_layer e * length ls
length-numbers e [] = omega arith
length-numbers One (l ∷ ls) = omega (arith, length-numbers One ls)
length-numbers Two (l ∷ ls) = omega (arith, length-numbers Two ls)

-- ---- layers, shared among records
none_of : (ls : List Layer) → length ls ≡ 0 → ls ≡ []
none_of [] e = refl
none_of (l ∷ ls) e = absurd (omega arith)

abbrev groups_of : (each : ℕ) → ℕ → List Layer → List (List LayerEntry)
groups_of each n ls = map entries (shared each n ls)

module _ (e : Edition) where
  -- full records with these layers are those
  groups_are : (groups : List (List LayerEntry)) → Full (per_record e) groups → (ls : List Layer) → joined groups ≡ entries ls → (length groups ≡ round_up (length ls) (per_record e)) × (groups_of (per_record e) (length groups) ls ≡ groups)
  groups_are [] f ls q = (sym (ap (λ (n : ℕ). round_up n (per_record e)) (let z : length ls ≡ 0 = omega (arith, ap length q, length-entries ls) in z) ∙ round_none e), refl)
  groups_are (g ∷ []) f ls q = (sym (round_more e (length ls) (omega (arith, long, f.0)) ∙ ap suc (ap (λ (n : ℕ). round_up n (per_record e)) (let z : length ls - per_record e ≡ 0 = omega (arith, long, f.1) in z) ∙ round_none e)), ap (λ (x : List LayerEntry). x ∷ []) (ap entries (take_all (per_record e) ls (let z : length ls ≤ per_record e = omega (arith, long, f.1) in z)) ∙ sym whole))
    where
      whole : g ≡ entries ls
      whole = sym (append-nil g) ∙ q

      long : length g ≡ length ls
      long = ap length whole ∙ length-entries ls
  groups_are (g ∷ next ∷ rest) f ls q =
      let ih : (length (next ∷ rest) ≡ round_up (length (drop (per_record e) ls)) (per_record e)) × (groups_of (per_record e) (length (next ∷ rest)) (drop (per_record e) ls) ≡ next ∷ rest) = groups_are (next ∷ rest) f.1 (drop (per_record e) ls) others_are in
      (ap suc (ih.0 ∙ ap (λ (n : ℕ). round_up n (per_record e)) (length-drop (per_record e) ls)) ∙ sym (round_more e (length ls) (omega (arith, enough))), ap₂ (λ (x : List LayerEntry) (y : List (List LayerEntry)). x ∷ y) (entries-take (per_record e) ls ∙ sym first_are) ih.1)
    where
      first_are : g ≡ take (per_record e) (entries ls)
      first_are = sym (take_at g (joined (next ∷ rest)) (per_record e) f.0) ∙ ap (take (per_record e)) q

      others_are : joined (next ∷ rest) ≡ entries (drop (per_record e) ls)
      others_are = sym (drop_at g (joined (next ∷ rest)) (per_record e) f.0) ∙ ap (drop (per_record e)) q ∙ sym (entries-drop (per_record e) ls)

      enough : 1 ≤ length ls
      enough = omega (arith, some_each e, ap length q ∙ length-entries ls, length-append g (joined (next ∷ rest)), f.0)

  -- and those are full
  groups_full : (n : ℕ) (ls : List Layer) → n ≡ round_up (length ls) (per_record e) → Full (per_record e) (groups_of (per_record e) n ls) × (joined (groups_of (per_record e) n ls) ≡ entries ls)
  groups_full zero ls q = (tt, sym (ap entries (none_of ls (none_round e (length ls) q))))
  groups_full (suc zero) ls q = ((omega (arith, long, (one_round e (length ls) q).0), omega (arith, long, (one_round e (length ls) q).1)), append-nil (entries (take (per_record e) ls)) ∙ ap entries (take_all (per_record e) ls (one_round e (length ls) q).1))
    where
      long : length (entries (take (per_record e) ls)) ≡ length ls
      long = length-entries (take (per_record e) ls) ∙ ap length (take_all (per_record e) ls (one_round e (length ls) q).1)
  groups_full (suc (suc n)) ls q =
      let ih : Full (per_record e) (groups_of (per_record e) (suc n) (drop (per_record e) ls)) × (joined (groups_of (per_record e) (suc n) (drop (per_record e) ls)) ≡ entries (drop (per_record e) ls)) = groups_full (suc n) (drop (per_record e) ls) ((more_round e (length ls) n q).1 ∙ ap (λ (k : ℕ). round_up k (per_record e)) (sym (length-drop (per_record e) ls))) in
      ((length-entries (take (per_record e) ls) ∙ length-take-le (per_record e) ls (more_round e (length ls) n q).0, ih.0), ap₂ (λ (x y : List LayerEntry). x ++ y) (entries-take (per_record e) ls) (ih.1 ∙ entries-drop (per_record e) ls) ∙ take-append-drop (per_record e) (entries ls))

group_few : (most : ℕ) (groups : List (List LayerEntry)) → Full most groups → (i : ℕ) → i < length groups → length (get_or groups i []) ≤ most
group_few most [] f i h = absurd (omega arith)
group_few most (g ∷ []) f zero h = f.1
group_few most (g ∷ []) f (suc i) h = absurd (omega arith)
group_few most (g ∷ next ∷ rest) f zero h = omega (arith, f.0)
group_few most (g ∷ next ∷ rest) f (suc i) h = group_few most (next ∷ rest) f.1 i (omega arith)

-- ---- the records of the right directory, by their numbers
map_at : (G : List (List Layer)) (i : ℕ) → get_or (map entries G) i [] ≡ entries (get_or G i [])
map_at [] i = refl
map_at (g ∷ G) zero = refl
map_at (g ∷ G) (suc i) = map_at G i

module _ (e : Edition) (p : ℕ) (ls : List Layer) where
  abbrev rows : ℕ
  rows = round_up (length ls) (per_record e)

  listing-at : (i : ℕ) → i < rows → get_or (directory_of e p ls) i [] ≡ record_of (letter e ∷ 32 ∷ []) (numbers_of e (get_or (groups_of (per_record e) rows ls) i []))
  unfolding row
  listing-at i h = row_at e p ls i h ∙ ap₂ record_of (letters_are e) (entries-listed e (take (per_record e) (drop (per_record e * i) ls)) ∙ ap (λ (x : List Layer). numbers_of e (entries x)) (sym (get_or-shared (per_record e) rows ls i h)) ∙ ap (numbers_of e) (sym (map_at (shared (per_record e) rows ls) i)))

  closing-last : get_or (directory_of e p ls) rows [] ≡ record_of (letter e ∷ 69 ∷ []) (closing_numbers e p (length ls))
  unfolding closing
  closing-last = ap (λ (x : List (List ℕ)). get_or x rows []) (directory_is e p ls) ∙ get_or_at (map (row e) (shared (per_record e) rows ls)) (closing e p (length ls)) [] [] rows (length-map (shared (per_record e) rows ls) (row e) ∙ length-shared (per_record e) rows ls) ∙ ap₂ record_of (end_letters_are e) (ends_are e p (length ls))

-- so many numbers fit a record
listing-few : (e : Edition) (g : List LayerEntry) → length g ≤ per_record e → length (numbers_of e g) ≤ 11
listing-few e g h = omega (arith, length-numbers e g, row_fits e (length g) h)

closing-few : (e : Edition) (p c : ℕ) → length (closing_numbers e p c) ≤ 11
closing-few e p c = omega (arith, ap length (ends_are e p c), length-end_listed e p c, end_fits e)

-- ---- a sheet, behind it its right directory to the end of the file
pub record Behind (e : Edition) (used : ℕ) (b : List ℕ) (c : Counts) : Type 0 where
  pub inside : used ≤ length b
  pub even : used % 84 ≡ 0
  pub sheet : judge_sheet (84 * c.records) b ≡ given c
  pub high : suc c.records ≤ used / 84
  pub directory : drop c.records (chunks (used / 84) b) ≡ directory_of e (suc c.records) (layers_of (chunks c.records b))

pub chunk_at : (n k : ℕ) (b : List ℕ) → k < n → get_or (chunks n b) k [] ≡ take 84 (drop (84 * k) b)
chunk_at zero k b h = absurd (omega arith)
chunk_at (suc n) zero b h = refl
chunk_at (suc n) (suc k) b h = chunk_at n k (drop 84 b) (omega arith) ∙ ap (take 84) (drop-drop (84 * k) 84 b ∙ ap (λ (m : ℕ). drop m b) (let q : 84 + 84 * k ≡ 84 * suc k = omega arith in q))

module _ (used : ℕ) (b : List ℕ) (c : Counts) (inside : used ≤ length b) (high : suc c.records ≤ used / 84) where
  -- record i of the directory
  pub record_there : (i : ℕ) → c.records + i < used / 84 → get_or (drop c.records (chunks (used / 84) b)) i [] ≡ take 84 (drop (84 * (c.records + i)) b)
  record_there i h = get_or-drop c.records (chunks (used / 84) b) i [] ∙ chunk_at (used / 84) (c.records + i) b h

-- the sheet in front
module _ (b : List ℕ) (c : Counts) (sheet : judge_sheet (84 * c.records) b ≡ given c) where
  pub sheet-accepted : Accepted (chunks c.records b) c.records c
  sheet-accepted = subst (λ (n : ℕ). Accepted (chunks n b) n c) (let q : 84 * c.records / 84 ≡ c.records = omega arith in q) (accepted_of (84 * c.records) b c sheet)

  pub layers-small : length (layers_of (chunks c.records b)) ≤ c.records
  layers-small = few-layers (chunks c.records b) c.records c sheet-accepted

-- ---- from the words
module _ (e : Edition) (used : ℕ) (b : List ℕ) (c : Counts) (l : ListsLayers e used b c) where
  abbrev s : ℕ
  s = c.records

  abbrev ls : List Layer
  ls = layers_of (chunks c.records b)

  headers_are : numbers_of One (joined l.layers) ≡ headers ls
  headers_are = rising-same 0 (suc (file_of (chunks s b)).part_length) (numbers_of One (joined l.layers)) (headers ls) l.rising (headers_rise (chunks s b)) (λ n q. every-header (chunks s b) n ((l.every n).0 q)) (λ n q. (l.every n).1 (only_headers (chunks s b) n q))

  -- WHAT IS LISTED IS WHAT IS COUNTED, total and last record with it
  pub joined_are : joined l.layers ≡ entries (layers_of (chunks c.records b))
  joined_are = same_entries (chunks s b) c (sheet-accepted b c l.sheet).judged (joined l.layers) (entries ls) l.right (all_span (chunks s b) c (sheet-accepted b c l.sheet).judged) (headers_are ∙ sym (entries_headers ls))

  count_is : length (joined l.layers) ≡ length ls
  count_is = ap length joined_are ∙ length-entries ls

  all-full : Full (per_record e) l.layers
  all-full = subst (λ (n : ℕ). Full n l.layers) (most_is e) l.full

  rows_are : length l.layers ≡ round_up (length ls) (per_record e)
  rows_are = (groups_are e l.layers all-full ls joined_are).0

  layers_are : groups_of (per_record e) (round_up (length ls) (per_record e)) ls ≡ l.layers
  layers_are = ap (λ (n : ℕ). groups_of (per_record e) n ls) (sym rows_are) ∙ (groups_are e l.layers all-full ls joined_are).1

  records_in_lem : used / 84 ≡ s + length l.layers + 1
  records_in_lem = omega (arith, l.used_is)

  pub words_behind : Behind e used b c
  words_behind = record {
    inside = l.inside;
    even = omega (arith, l.used_is);
    sheet = l.sheet;
    high = omega (arith, records_in_lem);
    directory = ext_get_or [] (drop s (chunks (used / 84) b)) (directory_of e (suc s) ls) (long ∙ sym (length_directory e (suc s) ls)) each;
  }
    where
      long : length (drop s (chunks (used / 84) b)) ≡ round_up (length ls) (per_record e) + 1
      long = length-drop s (chunks (used / 84) b) ∙ (omega (arith, length-chunks (used / 84) b, records_in_lem, rows_are))

      there : (i : ℕ) → s + i < used / 84 → get_or (drop s (chunks (used / 84) b)) i [] ≡ take 84 (drop (84 * (s + i)) b)
      there i h = record_there used b c l.inside (omega (arith, records_in_lem)) i h

      listed : (i : ℕ) → i < length l.layers → get_or (drop s (chunks (used / 84) b)) i [] ≡ get_or (directory_of e (suc s) ls) i []
      listed i h = there i (omega (arith, records_in_lem)) ∙ holds_record b (s + i) (omega (arith, l.inside, l.used_is)) (letter e) 32 (numbers_of e (get_or l.layers i [])) (listing-few e (get_or l.layers i []) (group_few (per_record e) l.layers all-full i h)) (l.listing i h) ∙ sym (listing-at e (suc s) ls i (omega (arith, rows_are)) ∙ ap (λ (x : List (List LayerEntry)). record_of (letter e ∷ 32 ∷ []) (numbers_of e (get_or x i []))) layers_are)

      closed : get_or (drop s (chunks (used / 84) b)) (length l.layers) [] ≡ get_or (directory_of e (suc s) ls) (length l.layers) []
      closed = there (length l.layers) (omega (arith, records_in_lem)) ∙ holds_record b (s + length l.layers) (omega (arith, l.inside, l.used_is)) (letter e) 69 (closing_numbers e (suc s) (length (joined l.layers))) (closing-few e (suc s) (length (joined l.layers))) l.closing ∙ ap (λ (n : ℕ). record_of (letter e ∷ 69 ∷ []) (closing_numbers e (suc s) n)) count_is ∙ sym (ap (λ (n : ℕ). get_or (directory_of e (suc s) ls) n []) rows_are ∙ closing-last e (suc s) ls)

      each : (i : ℕ) → i < length (drop s (chunks (used / 84) b)) → get_or (drop s (chunks (used / 84) b)) i [] ≡ get_or (directory_of e (suc s) ls) i []
      each i h = go (ltb i (length l.layers)) refl
        where
          go : (t : Bool) → ltb i (length l.layers) ≡ t → get_or (drop s (chunks (used / 84) b)) i [] ≡ get_or (directory_of e (suc s) ls) i []
          go true q = listed i (ltb-true i (length l.layers) q)
          go false q = let z : i ≡ length l.layers = omega (arith, ltb-false i (length l.layers) q, long, rows_are, h) in ap (λ (n : ℕ). get_or (drop s (chunks (used / 84) b)) n []) z ∙ closed ∙ sym (ap (λ (n : ℕ). get_or (directory_of e (suc s) ls) n []) z)

-- ---- to the words
module _ (e : Edition) (used : ℕ) (b : List ℕ) (c : Counts) (r : Behind e used b c) where
  abbrev s' : ℕ
  s' = c.records

  abbrev ls' : List Layer
  ls' = layers_of (chunks c.records b)

  abbrev layers' : List (List LayerEntry)
  layers' = groups_of (per_record e) (round_up (length (layers_of (chunks c.records b))) (per_record e)) (layers_of (chunks c.records b))

  rows-count : length layers' ≡ round_up (length ls') (per_record e)
  rows-count = length-map (shared (per_record e) (round_up (length ls') (per_record e)) ls') entries ∙ length-shared (per_record e) (round_up (length ls') (per_record e)) ls'

  groups : Full (per_record e) layers' × (joined layers' ≡ entries ls')
  groups = groups_full e (round_up (length ls') (per_record e)) ls' refl

  groups_headers : numbers_of One (joined layers') ≡ headers ls'
  groups_headers = ap (numbers_of One) groups.1 ∙ entries_headers ls'

  records-all : used / 84 ≡ s' + length layers' + 1
  records-all = omega (arith, sym (length-drop s' (chunks (used / 84) b)) ∙ ap length r.directory ∙ length_directory e (suc s') ls', length-chunks (used / 84) b, rows-count, r.high)

  used_all : used ≡ 84 * (s' + length layers' + 1)
  used_all = omega (arith, records-all, r.even)

  pub behind_words : ListsLayers e used b c
  behind_words = record {
    inside = r.inside;
    sheet = r.sheet;
    layers = layers';
    full = subst (λ (n : ℕ). Full n layers') (sym (most_is e)) groups.0;
    listing = λ i h. record_holds b (s' + i) (omega (arith, r.inside, used_all)) (letter e) 32 (numbers_of e (get_or layers' i [])) (listing-few e (get_or layers' i []) (group_few (per_record e) layers' groups.0 i h)) (sym (there i (omega (arith, records-all))) ∙ ap (λ (x : List (List ℕ)). get_or x i []) r.directory ∙ listing-at e (suc s') ls' i (omega (arith, rows-count)));
    closing = record_holds b (s' + length layers') (omega (arith, r.inside, used_all)) (letter e) 69 (closing_numbers e (suc s') (length (joined layers'))) (closing-few e (suc s') (length (joined layers'))) (sym (there (length layers') (omega (arith, records-all))) ∙ ap₂ (λ (x : List (List ℕ)) (n : ℕ). get_or x n []) r.directory rows-count ∙ closing-last e (suc s') ls' ∙ ap (λ (n : ℕ). record_of (letter e ∷ 69 ∷ []) (closing_numbers e (suc s') n)) (sym (ap length groups.1 ∙ length-entries ls')));
    used_is = used_all;
    every = λ n. (λ q. only_headers (chunks s' b) n (ap (member n) (sym groups_headers) ∙ q), λ h. ap (member n) groups_headers ∙ every-header (chunks s' b) n h);
    rising = subst (Rising 0) (sym groups_headers) (later (suc (file_of (chunks s' b)).part_length) 0 (headers ls') (omega arith) (headers_rise (chunks s' b)));
    right = subst (AllSpan (chunks s' b)) (sym groups.1) (all_span (chunks s' b) c (sheet-accepted b c r.sheet).judged);
  }
    where
      there : (i : ℕ) → s' + i < used / 84 → get_or (drop s' (chunks (used / 84) b)) i [] ≡ take 84 (drop (84 * (s' + i)) b)
      there i h = record_there used b c r.inside r.high i h

-- ---- and what judging asks
module _ (e : Edition) (used : ℕ) (b : List ℕ) (c : Counts) where
  pub right-records : RightDirectory e used b c → pointer_in (last_record used b) ≡ suc c.records
  right-records r = omega (arith, counted_are (record { counts = c; judged = r.sheet }), r.low)

  right-behind : RightDirectory e used b c → Behind e used b c
  unfolding sheet_in directory_in
  right-behind r = record {
    inside = leb-true used (length b) y.1;
    even = eqb-true (used % 84) 0 x.1;
    sheet = ap (λ (p : ℕ). judge_sheet (84 * pred p) b) (sym (right-records r)) ∙ r.sheet;
    high = omega (arith, right-records r, r.high);
    directory = ap (λ (p : ℕ). drop (pred p) (chunks (used / 84) b)) (sym (right-records r)) ∙ r.directory ∙ ap (λ (p : ℕ). directory_of e p (layers_of (chunks (pred p) b))) (right-records r);
  }
    where
      x : (ltb 0 used && leb used (length b) ≡ true) × (eqb (used % 84) 0 ≡ true)
      x = and-true _ _ r.whole

      y : (ltb 0 used ≡ true) × (leb used (length b) ≡ true)
      y = and-true _ _ x.0

  module _ (r : Behind e used b c) where
    last_closes : last_record used b ≡ closing e (suc c.records) (length (layers_of (chunks c.records b)))
    unfolding last_record
    last_closes = last-behind (chunks (used / 84) b) (map (row e) (shared (per_record e) (round_up (length (layers_of (chunks c.records b))) (per_record e)) (layers_of (chunks c.records b)))) (closing e (suc c.records) (length (layers_of (chunks c.records b)))) c.records (used / 84) (length-chunks (used / 84) b) (omega (arith, r.high)) (r.directory ∙ directory_is e (suc c.records) (layers_of (chunks c.records b)))

    points : pointer_in (last_record used b) ≡ suc c.records
    points = ap pointer_in last_closes ∙ pointer_closing (suc c.records) (length (layers_of (chunks c.records b))) (omega (arith, (sheet-accepted b c r.sheet).few)) (omega (arith, layers-small b c r.sheet, (sheet-accepted b c r.sheet).few)) e

    pub behind-right : RightDirectory e used b c
    unfolding sheet_in directory_in
    behind-right = record {
      whole = true_and _ _ (true_and _ _ (lt-ltb 0 used (omega (arith, r.high))) (le-leb used (length b) r.inside)) (eq-eqb (used % 84) 0 r.even);
      low = omega (arith, points);
      high = omega (arith, points, r.high);
      sheet = ap (λ (p : ℕ). judge_sheet (84 * pred p) b) points ∙ r.sheet;
      directory = ap (λ (p : ℕ). drop (pred p) (chunks (used / 84) b)) points ∙ r.directory ∙ sym (ap (λ (p : ℕ). directory_of e p (layers_of (chunks (pred p) b))) points);
    }

-- the right directory of either edition is what the words ask
pub right-lists : (e : Edition) (used : ℕ) (b : List ℕ) (c : Counts) → RightDirectory e used b c → ListsLayers e used b c
right-lists e used b c r = behind_words e used b c (right-behind e used b c r)

pub lists-right : (e : Edition) (used : ℕ) (b : List ℕ) (c : Counts) → ListsLayers e used b c → RightDirectory e used b c
lists-right e used b c l = behind-right e used b c (words_behind e used b c l)

-- "We accept a directory exactly when it lists every layer header once, in order, and nothing else"
pub lists_exactly : (used : ℕ) (b : List ℕ) (c : Counts) → judge_directory used b ≡ given c ↔ ListsLayers One used b c
lists_exactly used b c = (λ q. right-lists One used b c ((accepted_exactly used b c).0 q), λ l. (accepted_exactly used b c).1 (lists-right One used b c l))
