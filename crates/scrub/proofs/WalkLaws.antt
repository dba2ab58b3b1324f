-- A walk takes the entries in the order of their keys.
use Rattle.std.proofs.Common.{◌≡◌, ℕ, ◌+◌, ◌≤◌, Bool, true, false, cond, List, [], ◌∷◌, ◌++◌, length, Option, Some, None, refl, sym, ◌∙◌, ap, subst, arith, append_assoc, length-append}
use Rattle.std.specs.Prelude.{T, option_map, Contains}
use Rattle.std.specs.List.{AllByRecursion, last_or}
use Rattle.std.specs.FinMap.{is_sorted}
use Rattle.std.specs.FinMap.Entries.{below_all}
use Rattle.std.proofs.lemmas.List.{append-nil}
use Rattle.std.proofs.lemmas.List.Elements.{Contains-append_right}
use Rattle.std.proofs.lemmas.Bool.{and_parts}
use Rattle.fsd_bytes.specs.declared.key.Key.{Key}
use Rattle.fsd_bytes.specs.Keys.{key_cmp, key_lt}
use Rattle.fsd_formats.specs.declared.entry.Entry.{Entry}
use Rattle.fsd_log.specs.Scan.{Placed}
use Rattle.fsd_files.specs.Answers.{entry_after}
use Rattle.fsd_files.specs.Files.{Files}
use Rattle.fsd_files.specs.Kept.{Lists}
use Rattle.fsd_files.specs.declared.reply.Reply.TheVariants.{Found}
use Rattle.fsd_files.proofs.HistoryLaws.{after_in_order}
use Rattle.fsd_files.proofs.ListingLaws.{lists_length}
use Rattle.fsd_files.proofs.FreshLaws.{of_T}
use Rattle.fsd_table.proofs.KeyLaws.{lt_itself, lt_not_back}
use Rattle.sector_disk.specs.Machine.{Moment}
use Rattle.fsd_sound.specs.Mounted.{Mounted}
use Rattle.volume_contract.specs.State.{State, Known, Stands, volume_of}
use Rattle.scrub.specs.Walk.{IsWalked, last_key}

-- each is of a lesser key than those behind it
abbrev pub Ascend : List Entry → Type 0
Ascend [] = Unit {0}
Ascend (e ∷ entries) = AllByRecursion (λ x. key_lt e.key x.key ≡ true) entries × Ascend entries

below_listed : (key : Key) (s : Files) (entries : List Entry) → Lists s entries → below_all key_cmp key s ≡ true → AllByRecursion (λ x. key_lt key x.key ≡ true) entries
below_listed key [] [] lists below = tt
below_listed key [] (e ∷ entries) lists below = absurd lists
below_listed key (v ∷ s) [] lists below = absurd lists
below_listed key (v ∷ s) (e ∷ entries) lists below =
    let parts = and_parts (key_lt key v.0) (below_all key_cmp key s) below in
    (ap (key_lt key) lists.0.key ∙ parts.0, below_listed key s entries lists.1 parts.1)

pub ascend_listed : (s : Files) (entries : List Entry) → Lists s entries → is_sorted key_cmp s ≡ true → Ascend entries
ascend_listed [] [] lists sorted = tt
ascend_listed [] (e ∷ entries) lists sorted = absurd lists
ascend_listed (v ∷ s) [] lists sorted = absurd lists
ascend_listed (v ∷ s) (e ∷ entries) lists sorted =
    let parts = and_parts (below_all key_cmp v.0 s) (is_sorted key_cmp s) sorted in
    (below_listed e.key s entries lists.1 (ap (λ (k : Key). below_all key_cmp k s) lists.0.key ∙ parts.0), ascend_listed s entries lists.1 parts.1)

-- ---- the one behind the last that was met

abbrev last_from : Entry → List Entry → Entry
last_from b [] = b
last_from b (c ∷ cs) = last_from c cs

last_is : (b : Entry) (bs : List Entry) → last_or (Some b) bs ≡ Some (last_from b bs)
last_is b [] = refl
last_is b (c ∷ cs) = last_is c cs

all_last : (P : Entry → Type 0) (c : Entry) (cs rest : List Entry) → AllByRecursion P ((c ∷ cs) ++ rest) → P (last_from c cs)
all_last P c [] rest all = all.0
all_last P c (d ∷ ds) rest all = all_last P d ds rest all.1

abbrev pub head_of : List Entry → Option Entry
head_of [] = None
head_of (r ∷ rest) = Some r

head_after : (key : Key) (rest : List Entry) → AllByRecursion (λ x. key_lt key x.key ≡ true) rest → entry_after (Some key) rest ≡ head_of rest
head_after key [] all = refl
head_after key (r ∷ rest) all = ap (λ (b : Bool). cond b (Some r) (entry_after (Some key) rest)) all.0

past : (key : Key) (b : Entry) (entries : List Entry) → key_lt key b.key ≡ false → entry_after (Some key) (b ∷ entries) ≡ entry_after (Some key) entries
past key b entries is = ap (λ (x : Bool). cond x (Some b) (entry_after (Some key) entries)) is

behind_last : (b : Entry) (bs rest : List Entry) → Ascend ((b ∷ bs) ++ rest) → entry_after (Some (last_from b bs).key) ((b ∷ bs) ++ rest) ≡ head_of rest
behind_last b [] rest ascend = past b.key b rest (lt_itself b.key) ∙ head_after b.key rest ascend.0
behind_last b (c ∷ cs) rest ascend =
    past (last_from c cs).key b ((c ∷ cs) ++ rest) (lt_not_back b.key (last_from c cs).key (all_last (λ x. key_lt b.key x.key ≡ true) c cs rest ascend.0)) ∙ behind_last c cs rest ascend.1

first_of_all : (rest : List Entry) → entry_after None rest ≡ head_of rest
first_of_all [] = refl
first_of_all (r ∷ rest) = refl

pub behind_front : (front rest : List Entry) → Ascend (front ++ rest) → entry_after (last_key front) (front ++ rest) ≡ head_of rest
behind_front [] rest ascend = first_of_all rest
behind_front (b ∷ bs) rest ascend = ap (λ (o : Option Entry). entry_after (option_map (λ e. e.key) o) ((b ∷ bs) ++ rest)) (last_is b bs) ∙ behind_last b bs rest ascend

-- ---- one entry more

pub last_more : (front : List Entry) (o : Option Entry) (e : Entry) → last_or o (front ++ e ∷ []) ≡ Some e
last_more [] o e = refl
last_more (b ∷ bs) o e = last_more bs (Some b) e

-- the files of a volume that stands
pub files_in_order : {S : Type 0} (state : S → State) (has : S → Mounted → List Placed → Type 0) (v : S) (k : Known) (now : Moment) → Stands state has v k now → T (is_sorted key_cmp (volume_of k).files)
files_in_order state has v k now stands = subst (λ (s : Files). T (is_sorted key_cmp s)) (sym stands.disk.files) (after_in_order k.changes)

pub walked_none : (entries : List Entry) → IsWalked entries [] 0 None
walked_none entries = record { rest = entries; all = refl; met = refl; ends = refl }

module _ {S : Type 0} (state : S → State) (has : S → Mounted → List Placed → Type 0) (v : S) (k : Known) (now : Moment) (stands : Stands state has v k now)
    (front : List Entry) (count : ℕ) (last : Option Key) (w : IsWalked (volume_of k).entries front count last) where
  next_is : entry_after last (volume_of k).entries ≡ head_of w.rest
  next_is = ap (λ (o : Option Key). entry_after o (volume_of k).entries) w.ends ∙ ap (λ (x : List Entry). entry_after (last_key front) x) w.all
      ∙ behind_front front w.rest (subst Ascend w.all (ascend_listed (volume_of k).files (volume_of k).entries stands.disk.described.lists (of_T (is_sorted key_cmp (volume_of k).files) (files_in_order state has v k now stands))))

  some_rest : (rest : List Entry) (e : Entry) → head_of rest ≡ Some e → (more : List Entry) × (rest ≡ e ∷ more)
  some_rest [] e is = absurd (cc is)
  some_rest (r ∷ rest) e is = (rest, cc is)

  none_rest : (rest : List Entry) → head_of rest ≡ None → rest ≡ []
  none_rest [] is = refl
  none_rest (r ∷ rest) is = absurd (cc is)

  -- the entry found is the next one
  pub walked_at : (e : Entry) → Found (entry_after last (volume_of k).entries) ≡ Found (Some e) → (more : List Entry) × ((volume_of k).entries ≡ front ++ e ∷ more)
  walked_at e looks =
      let found : entry_after last (volume_of k).entries ≡ Some e = cc looks in
      let parts = some_rest w.rest e (sym next_is ∙ found) in
      (parts.0, w.all ∙ ap (λ (x : List Entry). front ++ x) parts.1)

  pub walked_more : (e : Entry) → Found (entry_after last (volume_of k).entries) ≡ Found (Some e) → IsWalked (volume_of k).entries (front ++ e ∷ []) (count + 1) (Some e.key)
  walked_more e looks =
      let at = walked_at e looks in
      record {
        rest = at.0;
        all = at.1 ∙ sym (append_assoc front (e ∷ []) at.0);
        met = let sum = length-append front (e ∷ []) in let met = w.met in omega (arith, sum, met);
        ends = sym (ap (λ (o : Option Entry). option_map (λ x. x.key) o) (last_more front None e));
      }

  pub walked_in : (e : Entry) → Found (entry_after last (volume_of k).entries) ≡ Found (Some e) → Contains (volume_of k).entries e
  walked_in e looks =
      let at = walked_at e looks in
      subst (λ (x : List Entry). Contains x e) (sym at.1) (Contains-append_right front (e ∷ at.0) e (0, omega arith, refl))

  whole : w.rest ≡ [] → (volume_of k).entries ≡ front
  whole none = w.all ∙ ap (λ (x : List Entry). front ++ x) none ∙ append-nil front

  -- none is left
  pub walked_all : Found (entry_after last (volume_of k).entries) ≡ Found None → (volume_of k).entries ≡ front
  walked_all looks = let found : entry_after last (volume_of k).entries ≡ None = cc looks in whole (none_rest w.rest (sym next_is ∙ found))

  -- as many were met as there are
  pub walked_counted : (versions : ℕ) → versions ≡ (state v).versions → versions ≤ count → (volume_of k).entries ≡ front
  walked_counted versions asked ended = whole (no_more w.rest
      (let sum = ap (λ (x : List Entry). length x) w.all in let both = length-append front w.rest in let met = w.met in let listed = lists_length (volume_of k).files (volume_of k).entries stands.disk.described.lists in
      let there = stands.fits.versions in omega (arith, asked, ended, sum, both, met, listed, there)))
    where
      no_more : (rest : List Entry) → length rest ≡ 0 → rest ≡ []
      no_more [] none = refl
      no_more (r ∷ rest) none = absurd (cc none)
