-- What the pages of a table show of a look-up: a leaf that lacks what was looked for, or that leads to the next entry.
use Rattle.std.specs.Prelude.{◌≡◌, ℕ, true, List, [], ◌∷◌, Option, Some, None}
use Rattle.std.specs.Option.{MatchOption}
use Rattle.fsd_bytes.specs.declared.key.Key.{Key}
use Rattle.fsd_formats.specs.declared.entry.Entry.{Entry}
use Rattle.fsd_formats.specs.NamePage.{Leaf}
use Rattle.fsd_table.specs.Pages.{content_fits, keys_fit, not_below}
use Rattle.fsd_table.specs.Reached.{BeginsWith, HasEntry, ReachesPage}
use Rattle.fsd_table.specs.Table.{Visit}
use Rattle.fsd_files.specs.Answers.{entry_after, entry_of}

-- a leaf that keeps within its bounds, and has an entry of the key
pub record HasKey (key : Key) (v : Visit) : Type 0 where
  pub entry : Entry
  pub there : HasEntry entry v
  pub of_key : entry.key ≡ key

-- a leaf that keeps within its bounds, between which the key stands, and that has no entry of it
pub record LacksKey (key : Key) (v : Visit) : Type 0 where
  pub entries : List Entry
  pub leaf : v.content ≡ Some (Leaf entries)
  pub fits : content_fits v.low v.high v.content ≡ true
  pub between : keys_fit v.low v.high (key ∷ []) ≡ true
  pub none : entry_of key entries ≡ None

-- the last leaf, which keeps within its bounds, begins up to a key, or with the first of all where none is given, and has no
-- later entry
pub record LacksLater (after : Option Key) (v : Visit) : Type 0 where
  pub entries : List Entry
  pub leaf : v.content ≡ Some (Leaf entries)
  pub fits : content_fits v.low v.high v.content ≡ true
  pub last : v.high ≡ None
  pub begins : MatchOption after (v.low ≡ None) (λ key. not_below v.low key ≡ true)
  pub none : entry_after after entries ≡ None

-- a leaf that keeps within its bounds, begins up to a key, or with the first of all where none is given, and whose first
-- later entry is this one; where it has none, a path reaches the leaf behind it, which begins with the entry
pub record HasNext (after : Option Key) (e : Entry) (pages : List (List ℕ)) (v : Visit) : Type 0 where
  pub entries : List Entry
  pub leaf : v.content ≡ Some (Leaf entries)
  pub fits : content_fits v.low v.high v.content ≡ true
  pub begins : MatchOption after (v.low ≡ None) (λ key. not_below v.low key ≡ true)
  pub first : MatchOption (entry_after after entries) (ReachesPage (BeginsWith e v) pages) (λ x. x ≡ e)
