-- Which layouts the roots say at each stop of a run that began with a mount.
use Rattle.std.proofs.Common.{◌≡◌, ◌⊎◌, inl, inr, ⊎_elim, ℕ, ◌≤◌, sym, subst, arith}
use Rattle.volume_layout.specs.declared.layout.Layout.{Layout}
use Rattle.sector_disk.specs.declared.machine.Machine.{Ghosts}
use Rattle.sector_disk.specs.Calls.{IsTimed, Since, StopsOnly, stops}
use Rattle.sector_disk.specs.Machine.{LeavesOnly, Moment}
use Rattle.sector_disk.proofs.Lags.{stops_by}
use Rattle.sector_disk.proofs.Moments.{leaves_more, then_on}
use Rattle.fsd_files.specs.Disk.{Sectors}
use Rattle.fsd_sound.specs.Mounted.{IsMounted}
use Rattle.fsd_sound.specs.Sound.{EachSaid, Says, SaysNoMore, weak_of}
use Rattle.fsd_sound.proofs.SaidLaws.{own_says}
use Rattle.fsd_runs.specs.Leaves.{IsRooted, LeavesRoots, WasSaid}
use Rattle.volume_contract.specs.State.{Known, forced_of}
use Rattle.volume_turns.specs.Steps.{SaysEither}

-- a run of which each moment has both
leaves_both : {D : Type 0} (moment : D → ℕ) (left_since : D → ℕ → Moment → Type 0) (old new : D) (P Q : Moment → Type 0) → LeavesOnly moment left_since old new P → LeavesOnly moment left_since old new Q → LeavesOnly moment left_since old new (λ c. P c × Q c)
leaves_both moment left_since old new P Q first second = record {
  later = first.later;
  each = λ c left. (first.each c left, second.each c left);
  before = λ t c le left. ⊎_elim (λ was. inl was) (λ one. ⊎_elim (λ was. inl was) (λ two. inr ((one.0, two.0), two.1)) (second.before t c le left)) (first.before t c le left);
}

module _ {D : Type 0} (M : Ghosts D) (own : Layout) (a : D) where
  -- this layout, or one that a root said as it began
  abbrev SaysSome : Moment → Type 0
  SaysSome c = EachSaid c.image (λ l. (l ≡ own) ⊎ Says l (M.now a).image)

  -- the layout of the volume was said, since its roots are its own once it is mounted
  module _ (k : Known) (m b : D) (at_m : IsTimed M m) (mount : LeavesOnly M.moment M.left_since a m (λ c. SaysNoMore (M.now a).image c.image)) (is : IsMounted k.mounted k.windows k.changes (forced_of k) (M.now m).image) where
    volume_said : Says k.mounted.volume.layout (M.now a).image
    volume_said =
        let roots = is.over.shows.readable.roots in
        mount.each (M.now m) (at_m.history.sooner (M.moment a) (M.moment m) (M.now m) mount.later at_m.here) k.mounted.volume.layout (own_says k.mounted.volume.layout k.mounted.volume.layout roots.other (weak_of k.windows) (M.now m).image is.over.own.roots roots.some)

    some_of : (c : Moment) → SaysEither own k c.image → SaysSome c
    some_of c says l planned there = ⊎_elim (λ same. inl same) (λ same. inr (subst (λ (x : Layout). Says x (M.now a).image) (sym same) volume_said)) (says l planned there)

    pub mounted_says : LeavesOnly M.moment M.left_since m b (λ c. SaysEither own k c.image) → LeavesOnly M.moment M.left_since a b SaysSome
    mounted_says run = then_on M.moment M.left_since a m b SaysSome (leaves_more M.moment M.left_since a m (λ c. SaysNoMore (M.now a).image c.image) SaysSome (λ c less l planned says. inr (less l says)) mount)
        (leaves_more M.moment M.left_since m b (λ c. SaysEither own k c.image) SaysSome some_of run)

  -- a stop may show a moment of before
  module _ (b : D) (at_a : IsTimed M a) (at_b : IsTimed M b) (since : Since M a b) where
    abbrev Held : Moment → Type 0
    Held = M.left_since a (M.now a).synced

    abbrev SaysWas : Moment → Type 0
    SaysWas left = EachSaid left.image (λ l. (l ≡ own) ⊎ WasSaid Held l)

    synced : (M.now a).synced ≤ M.moment a
    synced = omega (arith, at_a.history.synced (M.moment a) (M.now a) at_a.here, at_a.dated)

    was : (l : Layout) → Says l (M.now a).image → WasSaid Held l
    was l said = (M.now a, at_a.history.sooner (M.now a).synced (M.moment a) (M.now a) synced at_a.here, said)

    some : (c : Moment) → SaysSome c → SaysWas c
    some c says l planned there = ⊎_elim (λ same. inl same) (λ said. inr (was l said)) (says l planned there)

    said_stops : LeavesOnly M.moment M.left_since a b SaysSome → StopsOnly M a b SaysWas
    said_stops run = stops_by M a b SaysSome Held at_a at_b since run (λ c left. left) SaysWas some (λ last shown says left sooner lately either. ⊎_elim (λ held l planned there. inr (shown, held, there)) (some shown) either)

    pub leaves_roots : (weak : Sectors) → LeavesOnly M.moment M.left_since a b SaysSome → StopsOnly M a b (IsRooted own weak (M.now a)) → StopsOnly M a b (LeavesRoots own weak Held (M.now a))
    leaves_roots weak run rooted =
        leaves_more M.moment (stops M) a b (λ left. SaysWas left × IsRooted own weak (M.now a) left) (LeavesRoots own weak Held (M.now a)) (λ left x. record { says = x.0; replied = x.1 })
        (leaves_both M.moment (stops M) a b SaysWas (IsRooted own weak (M.now a)) (said_stops run) rooted)

    -- where no root says what none said
    pub was_stops : LeavesOnly M.moment M.left_since a b (λ c. SaysNoMore (M.now a).image c.image) → StopsOnly M a b (λ left. EachSaid left.image (WasSaid Held))
    was_stops run = stops_by M a b (λ c. SaysNoMore (M.now a).image c.image) Held at_a at_b since run (λ c left. left) (λ left. EachSaid left.image (WasSaid Held)) (λ c less l planned there. was l (less l there))
        (λ last shown less left sooner lately either. ⊎_elim (λ held l planned there. (shown, held, there)) (λ some_less l planned there. was l (some_less l there)) either)
