-- Pages that are read from home, and stay there where nothing wears.
use Rattle.std.proofs.Common.{◌≡◌, ℕ, ◌<◌, List, Some, None, sym, subst, ◌∙◌, ap}
use Rattle.std.specs.Prelude.{IsSome}
use Rattle.volume_layout.specs.declared.layout.Layout.{Layout}
use Rattle.sector_disk.specs.declared.machine.Seen.{Seen}
use Rattle.sector_disk.specs.declared.machine.Seen.TheVariants.{Whole, Damaged}
use Rattle.sector_disk.specs.Machine.{Moment, Wears}
use Rattle.sector_disk.specs.Image.{IsCalm}
use Rattle.sector_disk.proofs.Calm.{calm_worn}
use Rattle.sector_disk.proofs.ResultLaws.{some_is}
use Rattle.fsd_sound.specs.Homes.{home_of}
use Rattle.twin_home.specs.Home.{ShowsHome}
use Rattle.cached_table.specs.HomeLaws.{home_stays, in_homes}
use Rattle.cached_table.specs.Homes.{KnowsHomes, home_by}
use Rattle.fsd_files.specs.Disk.{Image}

pub calm_knows : (l : Layout) (at : Moment) → IsCalm at.windows → ((page : ℕ) → page < l.pages → IsSome (home_of l at.image page)) → KnowsHomes l at
calm_knows l at calm there page lt =
    let is = some_is (home_of l at.image page) (there page lt) in
    record { bytes = is.0; stays = λ i worn. ap (λ (j : Image). home_of l j page) (calm_worn at.windows at.image i calm worn) ∙ is.1 }

module _ (l k : Layout) (same : k ≡ l) (old new : Moment) (worn : Wears old new) (page : ℕ) (lt : page < l.pages) (knows : KnowsHomes l old) where
  still : home_of l new.image page ≡ home_by l old.image page
  still = sym (in_homes l new.image page lt) ∙ home_stays l old new worn.image worn.windows knows page

  pub home_read : (seen : Seen) (buf : List ℕ) → seen ≡ Whole → ShowsHome seen (home_of k new.image page) buf → home_by l old.image page ≡ Some buf
  home_read seen buf whole shows =
      let there : home_of k new.image page ≡ Some buf = subst (λ (s : Seen). ShowsHome s (home_of k new.image page) buf) whole shows in
      sym still ∙ subst (λ (j : Layout). home_of j new.image page ≡ Some buf) same there

  pub home_there : (seen : Seen) (buf : List ℕ) → seen ≡ Damaged → ShowsHome seen (home_of k new.image page) buf → ⊥
  home_there seen buf damaged shows =
      let none : home_of k new.image page ≡ None = subst (λ (s : Seen). ShowsHome s (home_of k new.image page) buf) damaged shows in
      let gone : home_of l new.image page ≡ None = subst (λ (j : Layout). home_of j new.image page ≡ None) same none in
      let is : home_of l new.image page ≡ Some (knows page lt).bytes = (knows page lt).stays new.image worn.image in
      absurd (cc (gone, is))
