-- What breaks a name table that reads alike at home however it wears.
use Rattle.std.proofs.Common.{◌≡◌, ℕ, ◌+◌, ◌<◌, List, [], Option, Some, None, Ok, Err, refl, sym, ap, subst, ◌∙◌, arith}
use Rattle.std.proofs.lemmas.Option.{same_Some}
use Rattle.std.specs.Prelude.{IfErr, IfSome, Result, get_or}
use Rattle.std.specs.Option.{unwrap_or}
use Rattle.volume_layout.specs.declared.layout.Layout.{Layout}
use Rattle.sector_disk.specs.Image.{IsWorn, Windows, open_damage}
use Rattle.sector_disk.specs.Machine.{Moment, Wears}
use Rattle.sector_disk.proofs.Wear.{worn_refl}
use Rattle.fsd_sound.specs.Homes.{home_of}
use Rattle.fsd_sound.specs.Mounting.{HasRoot}
use Rattle.fsd_sound.specs.Shown.{all_pages, each_of}
use Rattle.fsd_sound.specs.declared.fault.MountFault.{MountFault}
use Rattle.fsd_sound.specs.declared.fault.MountFault.TheVariants.{Unsound}
use Rattle.fsd_sound.proofs.EachLaws.{all_in_range, each_at, each_of_all}
use Rattle.mount_recover.specs.Recover.{IsNotUnsound}
use Rattle.table_pages.specs.Kept.{images_given}
use Rattle.fsd_table.specs.Breaks.{BreaksAt}
use Rattle.volume_contract.specs.Mount.{ReadAlike, UnsoundFor}
use Rattle.cached_table.specs.HomeLaws.{in_homes}
use Rattle.cached_table.specs.Homes.{KnowsHomes, home_by}
use Rattle.saved_map.specs.declared.believing.SavedMap.{SavedMap}
use Rattle.table_volume.specs.Mounting.{OpensKnown, OpensSaved}
use Rattle.cached_table.specs.Opening.{home_pages}
use Rattle.volume_laws.specs.Volume.{VolumeValue}

module _ (l : Layout) (mid : Moment) (pages : List (List ℕ)) (alike : ReadAlike l (open_damage mid.windows) mid.image pages) where
  -- what reads alike at home is known there
  knows_alike : KnowsHomes l mid
  knows_alike page lt = record {
    bytes = get_or pages page [];
    stays = λ i worn. subst (λ (p : ℕ). home_of l i p ≡ Some (get_or pages page [])) (let none : 0 + page ≡ page = omega arith in none) (each_at (home_of l i) 0 l.pages pages [] (alike i worn) page lt);
  }

  there : (page : ℕ) → page < l.pages → home_of l mid.image page ≡ Some (unwrap_or (home_by l mid.image page) [])
  there page lt =
      let is = (knows_alike page lt).stays mid.image (worn_refl (open_damage mid.windows) mid.image) in
      is ∙ ap (λ (o : Option (List ℕ)). Some (unwrap_or o [])) (sym (in_homes l mid.image page lt ∙ is))

  at_home : each_of (home_of l mid.image) (all_pages l) ≡ Some (home_pages l mid.image)
  unfolding images_given
  at_home = each_of_all (home_of l mid.image) (λ page. unwrap_or (home_by l mid.image page) []) (all_pages l)
      (all_in_range (λ page. home_of l mid.image page ≡ Some (unwrap_or (home_by l mid.image page) [])) 0 l.pages (λ page from lt. there page (omega (arith, lt))))

  same_pages : home_pages l mid.image ≡ pages
  same_pages = same_Some (home_pages l mid.image) pages (sym at_home ∙ alike mid.image (worn_refl (open_damage mid.windows) mid.image))

  breaks_alike : (s : ℕ) → (KnowsHomes l mid → BreaksAt l (home_pages l mid.image) s) → BreaksAt l pages s
  breaks_alike s breaks = subst (λ (ps : List (List ℕ)). BreaksAt l ps s) same_pages (breaks knows_alike)

-- it is unsound where the table is no table once its homes are known
module _ (sectors : ℕ) (l : Layout) (old mid new : Moment) (root : HasRoot sectors old.image l) (wears : Wears mid new) where
  unsound_at : (fault : MountFault) → (KnowsHomes l mid → OpensKnown l mid (Err fault)) → UnsoundFor sectors old new fault
  unsound_at (Unsound s) opens = record {
    layout = l;
    root = root;
    seen = mid.image;
    to = subst (λ (w : Windows). IsWorn (open_damage w) mid.image new.image) (sym wears.windows) wears.image;
    breaks = λ pages alike. breaks_alike l mid pages (subst (λ (w : Windows). ReadAlike l (open_damage w) mid.image pages) wears.windows alike) s opens;
  }
  unsound_at other opens = tt

  walk_unsound : (r : Result VolumeValue MountFault) → (KnowsHomes l mid → OpensKnown l mid r) → IfErr r (UnsoundFor sectors old new)
  walk_unsound (Ok v) opens = tt
  walk_unsound (Err fault) opens = unsound_at fault opens

-- by a saved map no table is found to be unsound
unsound_saved : (sectors : ℕ) (old new : Moment) (saved : SavedMap) (r : Result VolumeValue MountFault) → OpensSaved saved r → IfErr r (UnsoundFor sectors old new)
unsound_saved sectors old new saved (Ok v) opens = tt
unsound_saved sectors old new saved (Err fault) memory = subst (UnsoundFor sectors old new) (sym memory) tt

pub opens_unsound : (sectors : ℕ) (l : Layout) (old mid new : Moment) → HasRoot sectors old.image l → Wears mid new → (saved : Option SavedMap) (r : Result VolumeValue MountFault) → (saved ≡ None → KnowsHomes l mid → OpensKnown l mid r) → IfSome saved (λ x. OpensSaved x r)
    → IfErr r (UnsoundFor sectors old new)
opens_unsound sectors l old mid new root wears (Some saved) r walked opens = unsound_saved sectors old new saved r opens
opens_unsound sectors l old mid new root wears None r walked opens = walk_unsound sectors l old mid new root wears r (walked refl)

-- it fails for something else
pub none_unsound : (sectors : ℕ) (old new : Moment) (fault : MountFault) → IsNotUnsound fault → UnsoundFor sectors old new fault
none_unsound sectors old new (Unsound s) none = absurd none
none_unsound sectors old new other none = tt
