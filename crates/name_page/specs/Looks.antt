-- What a call leaves of the pages that only reaches some.
use Rattle.std.specs.Prelude.{◌≡◌, ◌⊎◌, ℕ, ◌<◌, true, false, List, Option, IsSome, length, slice_get}
use Rattle.fsd_bytes.specs.declared.refusal.Refusal.{Refusal}
use Rattle.name_page.specs.declared.pages.Pages.{Ghosts}
use Rattle.fsd_table.specs.Pages.{page_at}
use Rattle.name_page.specs.Pages.{Step, is_one_of, is_spare, IsReached, NeedsNoMemory}

-- a step that has reached pages since, and done nothing else
pub record Looks (old new : Step) : Type 0 where
  pub count : length new.images ≡ length old.images
  pub images : (page : ℕ) → IsReached old page → slice_get new.images page ≡ slice_get old.images page
  pub reached : (page : ℕ) → IsReached old page → IsReached new page
  pub spares : new.spares ≡ old.spares
  pub home_a : new.home_a ≡ old.home_a
  pub changed : new.changed ≡ old.changed
  pub promised : new.promised ≡ old.promised
  pub most_reached : new.most_reached ≡ old.most_reached
  pub most_changed : new.most_changed ≡ old.most_changed

-- each page of the table is in memory, but for those that are spare
pub record HasAllIn {D : Type 0} (P : Ghosts D) (t : D) : Type 0 where
  pub each : (page : ℕ) → page < length (P.step t).images → is_spare (P.step t).spares page ≡ false → P.in_memory t page

-- where all are no memory is wanting, and they stay
abbrev pub NeedsNoMore : {D : Type 0} (P : Ghosts D) (refusal : Option Refusal) (old new : D) → Type 0
NeedsNoMore P refusal old new = HasAllIn P old → NeedsNoMemory P.step P.in_memory refusal old new

-- the same of the pages, with what happened outside, and the refusal from there that was the last
pub record OnlyReaches {D : Type 0} (P : Ghosts D) (refusal : Option Refusal) (old new : D) : Type 0 where
  pub looks : Looks (P.step old) (P.step new)
  pub outside : P.outside refusal old new
  pub memory : NeedsNoMore P refusal old new
  pub trust : P.trusted new → P.trusted old
  pub stays : P.trusted new → (P.step new).images ≡ (P.step old).images

-- the same where steps have ended in between: of the pages, those that were changed before stay
pub record OnlyWalks {D : Type 0} (P : Ghosts D) (refusal : Option Refusal) (old new : D) : Type 0 where
  pub count : length (P.step new).images ≡ length (P.step old).images
  pub spares : (P.step new).spares ≡ (P.step old).spares
  pub home_a : (P.step new).home_a ≡ (P.step old).home_a
  pub changed : (P.step new).changed ≡ (P.step old).changed
  pub stood : (page : ℕ) → page < length (P.step old).images → is_one_of (P.step old).changed page ≡ true → slice_get (P.step new).images page ≡ slice_get (P.step old).images page
  pub most_reached : (P.step new).most_reached ≡ (P.step old).most_reached
  pub most_changed : (P.step new).most_changed ≡ (P.step old).most_changed
  pub outside : P.outside refusal old new
  pub trust : P.trusted new → P.trusted old
  pub stays : P.trusted new → (P.step new).images ≡ (P.step old).images

-- what stays where pages were changed too
pub record OnlyEdits {D : Type 0} (P : Ghosts D) (refusal : Option Refusal) (old new : D) : Type 0 where
  pub count : length (P.step new).images ≡ length (P.step old).images
  pub home_a : (P.step new).home_a ≡ (P.step old).home_a
  pub most_reached : (P.step new).most_reached ≡ (P.step old).most_reached
  pub most_changed : (P.step new).most_changed ≡ (P.step old).most_changed
  pub outside : P.outside refusal old new
  pub trust : P.trusted new → P.trusted old

-- the page was changed before, and is as it was
pub record IsAsChanged (old new : Step) (page : ℕ) : Type 0 where
  pub was : is_one_of old.changed page ≡ true
  pub same : slice_get new.images page ≡ slice_get old.images page

-- the page is one of the table's, and the grammar accepts it
pub record IsAccepted (s : Step) (page : ℕ) : Type 0 where
  pub there : page < length s.images
  pub accepted : IsSome (page_at s.images page)

-- each page that is changed now is so
pub record ChangesPages (old new : Step) : Type 0 where
  pub each : (page : ℕ) → is_one_of new.changed page ≡ true → IsAsChanged old new page ⊎ IsAccepted new page

-- images that have what the step has reached, but for pages that are spare
pub record Agrees (images : List (List ℕ)) (s : Step) : Type 0 where
  pub count : length images ≡ length s.images
  pub reached : (page : ℕ) → IsReached s page → is_spare s.spares page ≡ false → slice_get images page ≡ slice_get s.images page

-- what stays where pages were reached, and then some were taken
pub record OnlyTakes {D : Type 0} (P : Ghosts D) (refusal : Option Refusal) (old new : D) : Type 0 where
  pub edits : OnlyEdits P refusal old new
  pub stays : P.trusted new → (P.step new).images ≡ (P.step old).images
  pub agrees : (images : List (List ℕ)) → Agrees images (P.step new) → Agrees images (P.step old)

-- ---- what the pages show

-- what the step has reached shows this, whatever the other pages have
abbrev pub ShowsEach : Step → (List (List ℕ) → Type 0) → Type 0
ShowsEach s P = (images : List (List ℕ)) → Agrees images s → P images
