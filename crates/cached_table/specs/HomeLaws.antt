-- What is known of the homes lasts while the disk wears.
-- The laws stand here since the `impl` of a source rests on them.
use Rattle.std.proofs.Common.{◌≡◌, inl, inr, ℕ, ◌<◌, ◌≤◌, Bool, cond, None, sym, ap, subst, ◌∙◌}
use Rattle.std.proofs.lemmas.Bool.{cases_lt, lt-ltb, le-ltb}
use Rattle.volume_layout.specs.declared.layout.Layout.{Layout}
use Rattle.sector_disk.specs.Image.{Windows, IsWorn, open_damage}
use Rattle.sector_disk.specs.Machine.{Moment}
use Rattle.sector_disk.proofs.Wear.{worn_refl, worn_trans}
use Rattle.fsd_files.specs.Disk.{Image}
use Rattle.fsd_sound.specs.Homes.{home_of}
use Rattle.cached_table.specs.Homes.{KnowsHomes, home_by}

-- of a page of the layout it is what stands at home
pub in_homes : (l : Layout) (i : Image) (page : ℕ) → page < l.pages → home_by l i page ≡ home_of l i page
in_homes l i page lt = ap (λ (b : Bool). cond b (home_of l i page) None) (lt-ltb page l.pages lt)

pub past_homes : (l : Layout) (i : Image) (page : ℕ) → l.pages ≤ page → home_by l i page ≡ None
past_homes l i page past = ap (λ (b : Bool). cond b (home_of l i page) None) (le-ltb page l.pages past)

module _ (l : Layout) (old new : Moment) (worn : IsWorn (open_damage old.windows) old.image new.image) (same : new.windows ≡ old.windows) (knows : KnowsHomes l old) where
  pub homes_worn : KnowsHomes l new
  homes_worn page lt = record {
    bytes = (knows page lt).bytes;
    stays = λ i more. (knows page lt).stays i (worn_trans (open_damage old.windows) old.image new.image i worn (subst (λ (w : Windows). IsWorn (open_damage w) new.image i) same more));
  }

  pub home_stays : (page : ℕ) → home_by l new.image page ≡ home_by l old.image page
  home_stays page = elim (cases_lt page l.pages) [
    | inl lt ↦ in_homes l new.image page lt ∙ (knows page lt).stays new.image worn ∙ sym ((knows page lt).stays old.image (worn_refl (open_damage old.windows) old.image)) ∙ sym (in_homes l old.image page lt)
    | inr past ↦ past_homes l new.image page past ∙ sym (past_homes l old.image page past)
  ]
