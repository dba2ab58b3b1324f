-- What a format leaves as it was.
use Rattle.std.proofs.Common.{◌≡◌, ◌⊎◌, inl, inr, ℕ, Bool, Option, Some, None, sym, subst, ◌∙◌}
use Rattle.std.specs.Prelude.{IsTrue, ◌||◌, Result, Ok, Err, OnOk, OnErr}
use Rattle.std.proofs.lemmas.Bool.{and_parts, or_left, or_right}
use Rattle.sector_disk.specs.declared.sector.Sector.{Sector}
use Rattle.sector_disk.specs.declared.sector.WeakRun.{WeakRun}
use Rattle.sector_disk.specs.Image.{Windows, in_weak_run, open_damage, sector_at, settled, weak}
use Rattle.sector_disk.specs.Machine.{Moment, Names, Settles, Wears}
use Rattle.sector_disk.proofs.Wear.{worn_twice}
use Rattle.fsd_files.specs.Disk.{Sectors, SectorWorn}
use Rattle.version_data.specs.Writing.{WritesIn}
use Rattle.volume_format.specs.Formatting.{KeepsOthers}

more_worn : (few may : Bool) → (IsTrue few → IsTrue may) → (a b : Sector) → SectorWorn few a b → SectorWorn may a b
more_worn few may more a b (inl same) = inl same
more_worn few may more a b (inr hurt) = inr (more hurt.0, hurt.1)

settled_more : (present next : Option WeakRun) (s : ℕ) → IsTrue (weak present next s) → IsTrue (open_damage (settled present next) s)
settled_more None None s is = is
settled_more (Some p) None s is = is
settled_more None (Some n) s is = is
settled_more (Some p) (Some n) s is = (and_parts (in_weak_run p s) (in_weak_run n s) is).1

-- the call's last step settles, or fails and leaves the windows
pub ends : {T E H : Type 0} {mid new : Moment} (r : Result T E) → OnOk r (H → Settles mid new) → OnErr r (H → Wears mid new) → H → Settles mid new ⊎ Wears mid new
ends (Ok x) settles fails h = inl (settles h)
ends (Err e) settles fails h = inr (fails h)

-- behind the naming of a window
module _ {longest : ℕ} (may : Sectors) (old opened : Moment) (named : Names longest old opened) where
  named_then : (new : Moment) (s : ℕ) → (IsTrue (open_damage opened.windows s) → IsTrue (open_damage new.windows s)) → SectorWorn (open_damage opened.windows s) (sector_at opened.image s) (sector_at new.image s)
      → SectorWorn (open_damage old.windows s || open_damage new.windows s) (sector_at old.image s) (sector_at new.image s)
  named_then new s more next =
      let before = open_damage old.windows s in
      let behind = open_damage new.windows s in
      worn_twice (before || behind) (sector_at old.image s) (sector_at opened.image s) (sector_at new.image s)
      (more_worn before (before || behind) (or_left before behind) (sector_at old.image s) (sector_at opened.image s) (named.image.each s))
      (more_worn (open_damage opened.windows s) (before || behind) (λ is. or_right before behind (more is)) (sector_at opened.image s) (sector_at new.image s) next)

  pub kept_settled : (mid new : Moment) → WritesIn may opened mid → Settles mid new ⊎ Wears mid new → KeepsOthers may old new
  kept_settled mid new writes (inl settles) s out =
      let turned : (is : IsTrue (open_damage opened.windows s)) → IsTrue (open_damage new.windows s) = λ is.
      subst (λ (w : Windows). IsTrue (open_damage w s)) (sym settles.windows)
      (settled_more mid.windows.present mid.windows.next s (subst (λ (w : Windows). IsTrue (open_damage w s)) (sym writes.windows) is)) in
      named_then new s turned
      (worn_twice (open_damage opened.windows s) (sector_at opened.image s) (sector_at mid.image s) (sector_at new.image s) (writes.touches.others s out)
      (subst (λ (w : Windows). SectorWorn (open_damage w s) (sector_at mid.image s) (sector_at new.image s)) writes.windows (settles.image.each s)))
  kept_settled mid new writes (inr worn) s out =
      let same : new.windows ≡ opened.windows = worn.windows ∙ writes.windows in
      named_then new s (λ is. subst (λ (w : Windows). IsTrue (open_damage w s)) (sym same) is)
      (worn_twice (open_damage opened.windows s) (sector_at opened.image s) (sector_at mid.image s) (sector_at new.image s) (writes.touches.others s out)
      (subst (λ (w : Windows). SectorWorn (open_damage w s) (sector_at mid.image s) (sector_at new.image s)) writes.windows (worn.image.each s)))
