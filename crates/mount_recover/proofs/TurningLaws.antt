-- When a mount turns its windows: as the last that it does.
use Rattle.std.specs.Prelude.{Option, Some, None, IsSome}
use Rattle.std.proofs.Common.{◌≡◌, inl, inr, ℕ, List, ap, refl, sym, ◌∙◌}
use Rattle.volume_layout.specs.declared.layout.Layout.{Layout}
use Rattle.sector_disk.specs.declared.sector.WeakRun.{WeakRun}
use Rattle.sector_disk.specs.Image.{Windows, settled}
use Rattle.sector_disk.specs.Machine.{Before, Moment, Names, Wears}
use Rattle.fsd_formats.specs.declared.anchor.Anchor.{Anchor}
use Rattle.log_thirds.specs.Anchoring.{AnchorsIn}
use Rattle.log_thirds.specs.Append.{StandsInPart}
use Rattle.mount_recover.specs.Mending.{StaysShown}
use Rattle.mount_recover.specs.Replay.{IsUnturned, TurnsLast}

present_as : (a b : Windows) → a ≡ b → a.present ≡ b.present
present_as a b same = ap (λ (w : Windows). w.present) same

-- ---- up to `healing`

pub part_unturned : (place : ℕ) (bytes : List ℕ) (count : ℕ) (old left : Moment) → StandsInPart place bytes count old left → IsUnturned old left
part_unturned place bytes count old left part = present_as left.windows old.windows part.holds.windows

module _ (old mid new left : Moment) (same : mid.windows ≡ old.windows) where
  pub worn_unturned : Wears mid new → Before mid new left → IsUnturned old left
  worn_unturned failed (inl wears) = present_as left.windows old.windows (wears.windows ∙ same)
  worn_unturned failed (inr is) = present_as left.windows old.windows (ap (λ (at : Moment). at.windows) is ∙ failed.windows ∙ same)

  pub named_unturned : {longest : ℕ} → Names longest mid new → Before mid new left → IsUnturned old left
  named_unturned named (inl wears) = present_as left.windows old.windows (wears.windows ∙ same)
  named_unturned named (inr is) = ap (λ (at : Moment). at.windows.present) is ∙ named.present ∙ present_as mid.windows old.windows same

  -- ---- its end

  pub settle_turns : Before mid new left → TurnsLast old new left
  settle_turns (inl wears) = inl (present_as left.windows old.windows (wears.windows ∙ same))
  settle_turns (inr is) = inr is

pub anchors_turn : (a : Anchor) (old new left : Moment) → AnchorsIn a old left → TurnsLast old new left
anchors_turn a old new left anchors = inl (present_as left.windows old.windows anchors.holds.windows)

settles_next : (present next : Option WeakRun) → IsSome next → (settled present next).present ≡ next
settles_next present None some = absurd (cc some)
settles_next present (Some run) some = refl

-- a run that is named is the present one once it has settled
pub next_present : (two three new : Windows) → IsSome two.next → three ≡ two → new ≡ settled three.present three.next → two.next ≡ new.present
next_present two three new some kept is = sym (present_as new (settled two.present two.next) (is ∙ ap (λ (w : Windows). settled w.present w.next) kept) ∙ settles_next two.present two.next some)

-- ---- the whole

module _ (old one two three new : Moment) (wears : Wears old one) (completed : IsUnturned one two) (mended : three.windows ≡ two.windows) where
  at_one : IsUnturned old one
  at_one = present_as one.windows old.windows wears.windows

  pub worn_turns : (left : Moment) → Wears old left → TurnsLast old new left
  worn_turns left worn = inl (present_as left.windows old.windows worn.windows)

  pub completing_turns : (left : Moment) → IsUnturned one left → TurnsLast old new left
  completing_turns left still = inl (still ∙ at_one)

  pub stays_turns : (l : Layout) (windows : List WeakRun) (choices : List (List (List ℕ))) (left : Moment) → StaysShown l windows choices two left → TurnsLast old new left
  stays_turns l windows choices left stays = inl (present_as left.windows two.windows stays.holds.windows ∙ completed ∙ at_one)

  pub beginning_turns : (left : Moment) → TurnsLast three new left → TurnsLast old new left
  beginning_turns left (inl still) = inl (still ∙ present_as three.windows two.windows mended ∙ completed ∙ at_one)
  beginning_turns left (inr is) = inr is

  pub still_unturned : new.windows ≡ three.windows → IsUnturned old new
  still_unturned same = present_as new.windows three.windows same ∙ present_as three.windows two.windows mended ∙ completed ∙ at_one
