-- Leaders that are healed, one after another.
use Rattle.std.proofs.Common.{◌≡◌, inl, inr, ℕ, ◌+◌, ◌≤◌, Bool, true, false, List, [], ◌∷◌, ◌++◌, Option, Some, None, refl, sym, ◌∙◌, subst, arith}
use Rattle.std.specs.Prelude.{◌==◌, Contains, IsTrue, IsFalse, Result, Err}
use Rattle.std.specs.Prelude.{IfSome, slice_get, take}
use Rattle.run_table.specs.RunTable.{sectors_of}
use Rattle.run_table.specs.Space.{contains}
use Rattle.run_table.proofs.SectorLaws.{first_there}
use Rattle.fsd_files.specs.Answers.{HasLeader}
use Rattle.std.proofs.lemmas.Bool.{both_ways, eqb-true, false_from_ne_true, or_left, or_right}
use Rattle.std.specs.List.{AllByRecursion}
use Rattle.volume_layout.specs.declared.layout.Layout.{Layout}
use Rattle.volume_layout.specs.Layout.{is_data}
use Rattle.fsd_bytes.specs.declared.key.Key.{Key}
use Rattle.fsd_bytes.specs.declared.refusal.Refusal.{Refusal}
use Rattle.fsd_bytes.specs.declared.refusal.Refusal.TheVariants as Why
use Rattle.fsd_formats.specs.declared.entry.Entry.{Entry}
use Rattle.fsd_formats.specs.NamePage.{is_entry}
use Rattle.fsd_formats.specs.Leader.{leader_bytes, leader_of}
use Rattle.fsd_log.specs.Scan.{Placed}
use Rattle.sector_disk.specs.declared.sector.Sector.{Sector}
use Rattle.sector_disk.specs.declared.sector.Sector.TheVariants.{Whole}
use Rattle.sector_disk.specs.Image.{IsWorn, Windows, open_damage, sector_at}
use Rattle.sector_disk.specs.Machine.{Moment, Wears}
use Rattle.fsd_files.specs.Answers.{entry_after}
use Rattle.fsd_files.specs.Disk.{Has, Image, SectorWorn, Sectors, Touches}
use Rattle.fsd_files.specs.declared.reply.Reply.TheVariants.{Found}
use Rattle.fsd_files.specs.Scrub.{CountsLeaders, NeedsLeader, StandsLed, leader_place, FindsLeader, leader_count}
use Rattle.fsd_files.specs.Space.{Apart}
use Rattle.fsd_files.specs.Volume.{plans_of}
use Rattle.fsd_files.specs.Waiting.{is_leader}
use Rattle.fsd_files.proofs.KeptLaws.{has_on}
use Rattle.fsd_files.proofs.ScrubLaws.{counts_then}
use Rattle.fsd_sound.specs.Mounted.{Mounted}
use Rattle.fsd_sound.proofs.MountedLaws.{mounted_sound}
use Rattle.volume_contract.specs.Healing.{StandsStill}
use Rattle.volume_contract.specs.State.{State, Known, LeavesSound, Stands, forced_of, volume_of}
use Rattle.scrub.specs.Leading.{EndsLed, HasLed, IsLed, LeavesLed}
use Rattle.scrub.specs.Walk.{IsFromOutside}
use Rattle.fsd_files.proofs.LeaderLaws.{front_fewer, front_not_leader}
use Rattle.scrub.proofs.ApartLaws.{not_place}
use Rattle.scrub.proofs.PlaceLaws.{leader_there}
use Rattle.scrub.proofs.WalkLaws.{walked_all, walked_at, walked_counted, walked_in, walked_more, walked_none}

-- ---- what is written in two calls

pub worn_then : (weak : Bool) (x y z : Sector) → SectorWorn weak x y → SectorWorn weak y z → SectorWorn weak x z
worn_then weak x y z (inl a) (inl b) = inl (b ∙ a)
worn_then weak x y z (inr a) (inl b) = inr (a.0, b ∙ a.1)
worn_then weak x y z first (inr b) = inr b

pub touches_then : (earlier later may : Sectors) (a b c : Moment) → ((s : ℕ) → IsFalse (may s) → IsFalse (earlier s)) → ((s : ℕ) → IsFalse (may s) → IsFalse (later s)) → b.windows ≡ a.windows → Touches earlier a b → Touches later b c → Touches may a c
touches_then earlier later may a b c more_first more_then windows first second = record {
  size = second.size ∙ first.size;
  others = λ s out. worn_then (open_damage a.windows s) (sector_at a.image s) (sector_at b.image s) (sector_at c.image s) (first.others s (more_first s out))
      (subst (λ (w : Windows). SectorWorn (open_damage w s) (sector_at b.image s) (sector_at c.image s)) windows (second.others s (more_then s out)));
}

pub worn_touches : (may : Sectors) (a b : Moment) → IsWorn (open_damage a.windows) a.image b.image → Touches may a b
worn_touches may a b worn = record { size = worn.size; others = λ s out. worn.each s }

-- ---- leaders that stand

first_then : (weak : Sectors) (i j : Image) (bytes : List ℕ) (xs : List ℕ) → ((s : ℕ) → IsTrue (contains (take 1 xs) s) → SectorWorn (weak s) (sector_at i s) (sector_at j s))
    → IfSome (slice_get xs 0) (Has weak i bytes) → IfSome (slice_get xs 0) (Has weak j bytes)
first_then weak i j bytes [] worn has = tt
first_then weak i j bytes (x ∷ xs) worn has = has_on weak i j bytes x (worn x (first_there x [])) has

-- leaders stand on where they are only worn
pub leaders_then : (weak : Sectors) (i j : Image) (es : List Entry) → ((s : ℕ) → IsTrue (is_leader es s) → SectorWorn (weak s) (sector_at i s) (sector_at j s)) → AllByRecursion (HasLeader weak i) es → AllByRecursion (HasLeader weak j) es
leaders_then weak i j [] worn all = tt
leaders_then weak i j (e ∷ es) worn all = (
  first_then weak i j (leader_bytes (leader_of e)) (sectors_of e.runs) (λ s is. worn s (or_left (contains (take 1 (sectors_of e.runs)) s) (is_leader es s) is)) all.0,
  leaders_then weak i j es (λ s is. worn s (or_right (contains (take 1 (sectors_of e.runs)) s) (is_leader es s) is)) all.1,
)

-- ---- one leader, as it stood before others were written

module _ (old mid : Moment) (windows : mid.windows ≡ old.windows) (e : Entry) (worn : SectorWorn (open_damage old.windows (leader_place e)) (sector_at old.image (leader_place e)) (sector_at mid.image (leader_place e))) where
  was_whole : (bytes : List ℕ) → sector_at mid.image (leader_place e) ≡ Whole bytes → sector_at old.image (leader_place e) ≡ Whole bytes
  was_whole bytes is = elim worn [
    | inl same ↦ sym same ∙ is
    | inr hurt ↦ absurd (cc (hurt.1, is))
  ]

  pub stood_led : StandsLed mid.image e → StandsLed old.image e
  stood_led is = was_whole (leader_bytes (leader_of e)) is

  pub needed_leader : NeedsLeader mid e → NeedsLeader old e
  needed_leader (inl (inl hurt)) = elim worn [
    | inl same ↦ inl (inl (sym same ∙ hurt))
    | inr weak ↦ inl (inr weak.0)
  ]
  needed_leader (inl (inr weak)) = inl (inr (subst (λ (w : Windows). IsTrue (open_damage w (leader_place e))) windows weak))
  needed_leader (inr (other, is, differs)) = inr (other, was_whole other is, differs)

  pub found_before : (written : Bool) → FindsLeader e mid written → CountsLeaders (e ∷ []) old (leader_count written)
  found_before true needs = inr (0, refl, needed_leader needs, refl)
  found_before false stands = inl (stood_led stands, refl)

-- ---- a volume's leaders

all_one_more : (P : Entry → Type 0) (xs : List Entry) (e : Entry) → AllByRecursion P xs → P e → AllByRecursion P (xs ++ e ∷ [])
all_one_more P [] e all is = (is, tt)
all_one_more P (x ∷ xs) e all is = (all.0, all_one_more P xs e all.1 is)

-- a sector outside the data is no place in it
outside_data : (l : Layout) (place s : ℕ) → IsTrue (is_data l place) → IsFalse (is_data l s) → IsFalse (s == place)
outside_data l place s inside out = false_from_ne_true (s == place) (λ is. both_ways (is_data l s) out (subst (λ (t : ℕ). IsTrue (is_data l t)) (sym (eqb-true s place is)) inside))

pub rest_read : (l : Layout) (a b c : Moment) → b.windows ≡ a.windows → Touches (is_data l) a b → Wears b c → Touches (is_data l) a c
rest_read l a b c windows first worn = touches_then (is_data l) (is_data l) (is_data l) a b c (λ s out. out) (λ s out. out) windows first (worn_touches (is_data l) b c worn.image)

pub rest_more : (l : Layout) (place : ℕ) → IsTrue (is_data l place) → (a b c d : Moment) → b.windows ≡ a.windows → Touches (is_data l) a b → Wears b c → Touches (λ s. s == place) c d → Touches (is_data l) a d
rest_more l place inside a b c d windows first worn then =
    touches_then (is_data l) (λ s. s == place) (is_data l) a c d (λ s out. out) (λ s out. outside_data l place s inside out) (worn.windows ∙ windows) (rest_read l a b c windows first worn) then

pub few_more : (count counter bit : ℕ) (written : Bool) → bit ≡ leader_count written → count ≤ counter → count + bit ≤ counter + 1
few_more count counter bit true is le = omega (arith, is)
few_more count counter bit false is le = omega (arith, is)

module _ {S : Type 0} (state : S → State) (has : S → Mounted → List Placed → Type 0) where
  pub led_none : (k : Known) (v : S) (now : Moment) → Stands state has v k now → HasLed state has k v 0 None 0 now now
  led_none k v now stands = record {
    front = [];
    walked = walked_none (volume_of k).entries;
    counts = refl;
    places = tt;
    led = tt;
    stands = stands;
    touches = record { size = refl; others = λ s out. inl refl };
    windows = refl;
  }

  pub led_here : (v : S) (now : Moment) → LeavesLed state has v now now
  led_here v now k stands = record {
    sound = mounted_sound k.mounted k.windows k.changes (forced_of k) now.image stands.disk;
    roots = stands.disk.over.own.roots;
    windows = refl;
    said = refl;
    touches = record { size = refl; others = λ s out. inl refl };
  }

  pub still_ends : (k : Known) (s : S) (a now : Moment) (why : Refusal) → (let r : Result Bool Refusal = Err why in StandsStill state has k s now r) → (let r : Result ℕ Refusal = Err why in EndsLed state has k s a now r)
  still_ends k s a now (Why.Device place) stands = stands
  still_ends k s a now Why.Memory stands = absurd stands
  still_ends k s a now why stands = absurd stands

  pub outside_ends : (k : Known) (s : S) (a now : Moment) (why : Refusal) → IsFromOutside why → Stands state has s k now → (let r : Result ℕ Refusal = Err why in EndsLed state has k s a now r)
  outside_ends k s a now (Why.Device place) outside stands = stands
  outside_ends k s a now Why.Memory outside stands = stands
  outside_ends k s a now why outside stands = absurd outside

  module _ (k : Known) (y : S) (count : ℕ) (last : Option Key) (written : ℕ) (a b : Moment) (led : HasLed state has k y count last written a b) where
    -- a stop while the table is read
    pub led_wears : b.said ≡ a.said → (left : Moment) → Wears b left → Stands state has y k left → LeavesSound k (is_leader (volume_of k).entries) a left
    led_wears said left worn stands = record {
      sound = mounted_sound k.mounted k.windows k.changes (forced_of k) left.image stands.disk;
      roots = stands.disk.over.own.roots;
      windows = worn.windows ∙ led.windows;
      said = worn.said ∙ said;
      touches = touches_then (is_leader led.front) (is_leader led.front) (is_leader (volume_of k).entries) a b left
          (λ s out. front_fewer led.front led.walked.rest s (subst (λ (es : List Entry). IsFalse (is_leader es s)) led.walked.all out))
          (λ s out. front_fewer led.front led.walked.rest s (subst (λ (es : List Entry). IsFalse (is_leader es s)) led.walked.all out))
          led.windows led.touches (worn_touches (is_leader led.front) b left worn.image);
    }

    -- where all were met
    pub led_all : Found (entry_after last (volume_of k).entries) ≡ Found None → (z : S) (c : Moment) → Wears b c → Stands state has z k c → IsLed state has k z written a c
    led_all looks z c worn stands =
        let all = walked_all state has y k b led.stands led.front count last led.walked looks in
        record {
          counts = subst (λ (es : List Entry). CountsLeaders es a written) (sym all) led.counts;
          places = subst (λ (es : List Entry). AllByRecursion (λ e. IsTrue (is_data k.mounted.volume.layout (leader_place e))) es) (sym all) led.places;
          stands = stands;
          led = subst (λ (es : List Entry). AllByRecursion (HasLeader (open_damage a.windows) c.image) es) (sym all) (leaders_then (open_damage a.windows) b.image c.image led.front (λ s is. subst (λ (w : Windows). SectorWorn (open_damage w s) (sector_at b.image s) (sector_at c.image s)) led.windows (worn.image.each s)) led.led);
          touches = subst (λ (es : List Entry). Touches (is_leader es) a c) (sym all) (touches_then (is_leader led.front) (is_leader led.front) (is_leader led.front) a b c (λ s out. out) (λ s out. out) led.windows led.touches (worn_touches (is_leader led.front) b c worn.image));
        }

    pub led_counted : (versions : ℕ) → versions ≡ (state y).versions → versions ≤ count → IsLed state has k y written a b
    led_counted versions asked ended =
        let all = walked_counted state has y k b led.stands led.front count last led.walked versions asked ended in
        record {
          counts = subst (λ (es : List Entry). CountsLeaders es a written) (sym all) led.counts;
          places = subst (λ (es : List Entry). AllByRecursion (λ e. IsTrue (is_data k.mounted.volume.layout (leader_place e))) es) (sym all) led.places;
          stands = led.stands;
          led = subst (λ (es : List Entry). AllByRecursion (HasLeader (open_damage a.windows) b.image) es) (sym all) led.led;
          touches = subst (λ (es : List Entry). Touches (is_leader es) a b) (sym all) led.touches;
        }

    module _ (e : Entry) (looks : Found (entry_after last (volume_of k).entries) ≡ Found (Some e)) (good : is_entry e ≡ true) (c : Moment) (reads : Wears b c) where
      at : (more : List Entry) × ((volume_of k).entries ≡ led.front ++ e ∷ more)
      at = walked_at state has y k b led.stands led.front count last led.walked e looks

      windows : c.windows ≡ a.windows
      windows = reads.windows ∙ led.windows

      so_far : Touches (is_leader led.front) a c
      so_far = touches_then (is_leader led.front) (is_leader led.front) (is_leader led.front) a b c (λ s out. out) (λ s out. out) led.windows led.touches (worn_touches (is_leader led.front) b c reads.image)

      apart : Apart k.mounted.volume.layout (plans_of (led.front ++ e ∷ at.0))
      apart = subst (λ (es : List Entry). Apart k.mounted.volume.layout (plans_of es)) at.1 led.stands.disk.described.apart

      not_before : IsFalse (is_leader led.front (leader_place e))
      not_before = front_not_leader k.mounted.volume.layout led.front e at.0 apart (leader_place e) (leader_there e good)

      among : (s : ℕ) → IsFalse (is_leader (volume_of k).entries s) → IsFalse (is_leader (led.front ++ e ∷ at.0) s)
      among s out = subst (λ (es : List Entry). IsFalse (is_leader es s)) at.1 out

      elsewhere : (s : ℕ) → IsTrue (is_leader led.front s) → IsFalse (s == leader_place e)
      elsewhere s there = false_from_ne_true (s == leader_place e) (λ is. both_ways (is_leader led.front (leader_place e)) not_before (subst (λ (t : ℕ). IsTrue (is_leader led.front t)) (eqb-true s (leader_place e) is) there))

      pub led_in : Contains (volume_of k).entries e
      led_in = walked_in state has y k b led.stands led.front count last led.walked e looks

      -- a stop while the next one is written
      pub led_leaves : b.said ≡ a.said → (left : Moment) → LeavesSound k (λ s. s == leader_place e) c left → LeavesSound k (is_leader (volume_of k).entries) a left
      led_leaves said left leaves = record {
        sound = leaves.sound;
        roots = leaves.roots;
        windows = leaves.windows ∙ windows;
        said = leaves.said ∙ reads.said ∙ said;
        touches = touches_then (is_leader led.front) (λ s. s == leader_place e) (is_leader (volume_of k).entries) a c left
            (λ s out. front_fewer led.front (e ∷ at.0) s (among s out)) (λ s out. not_place led.front e at.0 good s (among s out)) windows so_far leaves.touches;
      }

      -- the next one is healed
      pub led_more : IsTrue (is_data k.mounted.volume.layout (leader_place e)) → (z : S) (d : Moment) → d.windows ≡ c.windows → Touches (λ s. s == leader_place e) c d → Stands state has z k d → HasLeader (open_damage d.windows) d.image e → (bit : Bool) → FindsLeader e c bit
          → (sum : ℕ) → sum ≡ written + leader_count bit → HasLed state has k z (count + 1) (Some e.key) sum a d
      led_more inside z d same touches stands lead bit finds sum is = record {
        led = all_one_more (HasLeader (open_damage a.windows) d.image) led.front e
            (leaders_then (open_damage a.windows) c.image d.image led.front
            (λ s there. subst (λ (w : Windows). SectorWorn (open_damage w s) (sector_at c.image s) (sector_at d.image s)) windows (touches.others s (elsewhere s there)))
            (leaders_then (open_damage a.windows) b.image c.image led.front (λ s there. subst (λ (w : Windows). SectorWorn (open_damage w s) (sector_at b.image s) (sector_at c.image s)) led.windows (reads.image.each s)) led.led))
            (subst (λ (w : Windows). HasLeader (open_damage w) d.image e) (same ∙ windows) lead);
        front = led.front ++ e ∷ [];
        walked = walked_more state has y k b led.stands led.front count last led.walked e looks;
        counts = subst (CountsLeaders (led.front ++ e ∷ []) a) (sym is) (counts_then (NeedsLeader a) (StandsLed a.image) led.front (e ∷ []) written (leader_count bit) led.counts (found_before a c windows e (so_far.others (leader_place e) not_before) bit finds));
        places = all_one_more (λ x. IsTrue (is_data k.mounted.volume.layout (leader_place x))) led.front e led.places inside;
        stands = stands;
        touches = touches_then (is_leader led.front) (λ s. s == leader_place e) (is_leader (led.front ++ e ∷ [])) a c d
            (λ s out. front_fewer led.front (e ∷ []) s out) (λ s out. not_place led.front e [] good s out) windows so_far touches;
        windows = same ∙ windows;
      }
