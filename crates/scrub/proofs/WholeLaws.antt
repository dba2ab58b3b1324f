-- A whole scrub, step by step.
use Rattle.std.proofs.Common.{◌≡◌, ◌≢◌, inl, inr, ℕ, ◌+◌, ◌-◌, ◌^◌, ◌≤◌, min, Bool, false, ◌||◌, ◌&&◌, nat_le, nat_lt, List, [], ◌∷◌, ◌++◌, length, sym, ap, ◌∙◌, subst, arith}
use Rattle.std.specs.Prelude.{◌==◌, IsTrue, IsFalse, Result, Ok, Err}
use Rattle.std.specs.List.{AllByRecursion, list_any}
use Rattle.std.proofs.lemmas.List.{append-nil}
use Rattle.std.proofs.lemmas.Bool.{and_parts, or_cases, or_from, or_parts, false_from_ne_true, eqb-true, leb-true}
use Rattle.volume_layout.specs.declared.layout.Layout.{Layout}
use Rattle.volume_layout.specs.Layout.{data_start, home_a, is_data}
use Rattle.fsd_bytes.specs.declared.key.Key.{Key}
use Rattle.fsd_bytes.specs.declared.refusal.Refusal.{Refusal}
use Rattle.fsd_bytes.specs.declared.refusal.Refusal.TheVariants as Why
use Rattle.fsd_formats.specs.declared.entry.Entry.{Entry}
use Rattle.fsd_log.specs.Scan.{Placed}
use Rattle.sector_disk.specs.declared.sector.Sector.{Sector}
use Rattle.sector_disk.specs.declared.sector.Sector.TheVariants.{Whole}
use Rattle.sector_disk.specs.declared.sector.WeakRun.{WeakRun}
use Rattle.sector_disk.specs.Image.{Windows, open_damage, sector_at}
use Rattle.sector_disk.specs.Machine.{Moment, Wears}
use Rattle.fsd_files.specs.Answers.{HasLeader, Outcome, force_outcome}
use Rattle.fsd_files.specs.Disk.{Image, SectorWorn, Sectors, Touches}
use Rattle.fsd_files.specs.Files.{Change}
use Rattle.fsd_files.specs.Kept.{IsWhole}
use Rattle.fsd_files.specs.declared.reply.Reply.{Reply}
use Rattle.fsd_files.specs.declared.reply.Reply.TheVariants as Replies
use Rattle.fsd_files.specs.Scrub.{CountsHealed, CountsTwins, NeedsLeader, Picks, PicksSome, StandsLed, all_data, leader_place}
use Rattle.fsd_files.specs.Space.{Apart}
use Rattle.fsd_files.specs.Volume.{Volume, plans_of}
use Rattle.fsd_files.specs.Waiting.{is_leader}
use Rattle.fsd_files.proofs.ScrubLaws.{counts_as, picks_longer}
use Rattle.fsd_sound.specs.Laid.{HasOwnRoots}
use Rattle.fsd_sound.specs.Mounted.{Mounted}
use Rattle.fsd_sound.specs.Sound.{IsSound, is_home, is_twin, weak_of}
use Rattle.fsd_sound.specs.Writes.{force_writes, mount_writes}
use Rattle.fsd_sound.proofs.MoreLaws.{sound_fewer}
use Rattle.fsd_sound.proofs.MountedLaws.{mounted_sound}
use Rattle.fsd_sound.proofs.WritesLaws.{data_elsewhere, elsewhere}
use Rattle.volume_contract.specs.declared.files.Forced.{Forced}
use Rattle.volume_contract.specs.Ends.{Answers, EndsForce}
use Rattle.volume_contract.specs.Healing.{IsWholeBut, StandsStill, TwinsStand}
use Rattle.volume_contract.specs.State.{State, Known, LeavesSound, Stands, forced_of, volume_of}
use Rattle.scrub.specs.declared.whole.Healed.{Healed}
use Rattle.scrub.specs.Leading.{EndsLed, IsLed}
use Rattle.scrub.specs.Scrub.{EndsHealed, EndsLooked, EndsScrub, IsForcedFrom, IsHealed, IsLooking, IsScrubbing, heal_writes, scrub_writes}
use Rattle.scrub.specs.Walk.{IsFromOutside}
use Rattle.fsd_files.proofs.LeaderLaws.{IsInner, data_apart}
use Rattle.scrub.proofs.LeadLaws.{leaders_then, needed_leader, stood_led, touches_then, worn_touches}
use Rattle.scrub.proofs.LookLaws.{none_found}

-- ---- where is written

force_out : (l : Layout) (s : ℕ) → IsFalse (mount_writes l s) → IsFalse (force_writes l s)
force_out l s out = (or_parts ((s == 0) || (s == 4)) (force_writes l s) out).1

home_out : (l : Layout) (s : ℕ) → IsFalse (mount_writes l s) → IsFalse (is_home l s)
home_out l s out = (or_parts ((s == 8) || (s == 12) || nat_le 16 s && nat_lt s (home_a l 0)) (is_home l s) (force_out l s out)).1

none_is : (s a b c d : ℕ) → s ≢ a → s ≢ b → s ≢ c → s ≢ d → IsFalse (list_any (λ t. t == s) (a ∷ b ∷ c ∷ d ∷ []))
none_is s a b c d na nb nc nd = false_from_ne_true (list_any (λ t. t == s) (a ∷ b ∷ c ∷ d ∷ [])) (λ is.
    elim (or_cases (a == s) (list_any (λ t. t == s) (b ∷ c ∷ d ∷ [])) is) [
      | inl e ↦ na (sym (eqb-true a s e))
      | inr more ↦ elim (or_cases (b == s) (list_any (λ t. t == s) (c ∷ d ∷ [])) more) [
        | inl e ↦ nb (sym (eqb-true b s e))
        | inr rest ↦ elim (or_cases (c == s) (list_any (λ t. t == s) (d ∷ [])) rest) [
          | inl e ↦ nc (sym (eqb-true c s e))
          | inr last ↦ elim (or_cases (d == s) false last) [
            | inl e ↦ nd (sym (eqb-true d s e))
            | inr never ↦ cc never
          ]
        ]
      ]
    ])

pub twin_out : (l : Layout) (s : ℕ) → IsFalse (mount_writes l s) → IsFalse (is_twin l s)
twin_out l s out =
    let e = elsewhere l s out in
    or_from (list_any (λ t. t == s) (0 ∷ 4 ∷ 8 ∷ 12 ∷ [])) (is_home l s) (none_is s 0 4 8 12 e.root e.root_copy e.anchor e.anchor_copy) (home_out l s out)

data_out : (l : Layout) (s : ℕ) → IsTrue (is_data l s) → IsFalse (mount_writes l s)
data_out l s is = data_elsewhere l s (let from = leb-true (data_start l) s (and_parts (nat_le (data_start l) s) (nat_lt s l.sectors) is).0 in omega (arith, from))

-- what is healed of twins, and then of leaders
pub heal_within : (l : Layout) (a b : Moment) → Touches (is_twin l) a b → Touches (scrub_writes l) a b
heal_within l a b first = record { size = first.size; others = λ s out. first.others s (twin_out l s (or_parts (mount_writes l s) (is_data l s) out).0) }

pub heal_rest : (l m : Layout) → m ≡ l → (a b c : Moment) → b.windows ≡ a.windows → Touches (is_twin l) a b → Touches (is_data m) b c → Touches (scrub_writes l) a c
heal_rest l m same a b c windows first then =
    touches_then (is_twin l) (is_data l) (scrub_writes l) a b c (λ s out. twin_out l s (or_parts (mount_writes l s) (is_data l s) out).0) (λ s out. (or_parts (mount_writes l s) (is_data l s) out).1) windows first (subst (λ (x : Layout). Touches (is_data x) b c) same then)

-- the same where sectors are read behind that
pub scrub_read : (l : Layout) (a b c : Moment) → b.windows ≡ a.windows → Touches (scrub_writes l) a b → Wears b c → Touches (scrub_writes l) a c
scrub_read l a b c windows first worn = touches_then (scrub_writes l) (scrub_writes l) (scrub_writes l) a b c (λ s out. out) (λ s out. out) windows first (worn_touches (scrub_writes l) b c worn.image)

-- what stands twice stands on where only the data area is written
pub twins_then : (l : Layout) (a b : Moment) → b.windows ≡ a.windows → Touches (is_data l) a b → TwinsStand l a → TwinsStand l b
twins_then l a b windows first all s twin = by (all s twin) (first.others s (false_from_ne_true (is_data l s) (λ is. cc (twin, twin_out l s (data_out l s is)))))
  where
    open_then : IsTrue (open_damage a.windows s) → IsTrue (open_damage b.windows s)
    open_then is = subst (λ (w : Windows). IsTrue (open_damage w s)) (sym windows) is

    by : IsWholeBut a s → SectorWorn (open_damage a.windows s) (sector_at a.image s) (sector_at b.image s) → IsWholeBut b s
    by (inl whole) (inl same) = inl (whole.0, same ∙ whole.1)
    by (inl whole) (inr hurt) = inr (open_then hurt.0, hurt.1)
    by (inr weak) (inl same) = inr (open_then weak.0, same ∙ weak.1)
    by (inr weak) (inr hurt) = inr (open_then hurt.0, hurt.1)

module _ (k : Known) where
  mount_part : (s : ℕ) → IsFalse (heal_writes k s) → IsFalse (mount_writes k.mounted.volume.layout s)
  mount_part s out = (or_parts (mount_writes k.mounted.volume.layout s) (is_leader (volume_of k).entries s) out).0

  leader_part : (s : ℕ) → IsFalse (heal_writes k s) → IsFalse (is_leader (volume_of k).entries s)
  leader_part s out = (or_parts (mount_writes k.mounted.volume.layout s) (is_leader (volume_of k).entries s) out).1

  twin_part : (l : Layout) → k.mounted.volume.layout ≡ l → (s : ℕ) → IsFalse (heal_writes k s) → IsFalse (is_twin l s)
  twin_part l same s out = twin_out l s (subst (λ (x : Layout). IsFalse (mount_writes x s)) same (mount_part s out))

-- ---- what a stop leaves

module _ (k : Known) (l : Layout) (same : k.mounted.volume.layout ≡ l) (a b : Moment) where
  -- in what stands twice
  pub twins_leave : LeavesSound k (is_twin l) a b → LeavesSound k (heal_writes k) a b
  twins_leave leaves = record {
    sound = leaves.sound;
    roots = leaves.roots;
    windows = leaves.windows;
    said = leaves.said;
    touches = record { size = leaves.touches.size; others = λ s out. leaves.touches.others s (twin_part k l same s out) };
  }

  module _ (windows : b.windows ≡ a.windows) (said : b.said ≡ a.said) (left : Moment) where
    -- in leaders behind that
    pub leaders_leave : Touches (is_twin l) a b → LeavesSound k (is_leader (volume_of k).entries) b left → LeavesSound k (heal_writes k) a left
    leaders_leave first leaves = record {
      sound = leaves.sound;
      roots = leaves.roots;
      windows = leaves.windows ∙ windows;
      said = leaves.said ∙ said;
      touches = touches_then (is_twin l) (is_leader (volume_of k).entries) (heal_writes k) a b left (twin_part k l same) (leader_part k) windows first leaves.touches;
    }

    -- while sectors are read behind all
    pub reads_leave : {S : Type 0} (state : S → State) (has : S → Mounted → List Placed → Type 0) (v : S) → Touches (heal_writes k) a b → Wears b left → Stands state has v k left → LeavesSound k (heal_writes k) a left
    reads_leave state has v first worn stands = record {
      sound = mounted_sound k.mounted k.windows k.changes (forced_of k) left.image stands.disk;
      roots = stands.disk.over.own.roots;
      windows = worn.windows ∙ windows;
      said = worn.said ∙ said;
      touches = touches_then (heal_writes k) (heal_writes k) (heal_writes k) a b left (λ s out. out) (λ s out. out) windows first (worn_touches (heal_writes k) b left worn.image);
    }

-- ---- what is healed

module _ {S : Type 0} (state : S → State) (has : S → Mounted → List Placed → Type 0) where
  pub healed_all : (k : Known) (l : Layout) → k.mounted.volume.layout ≡ l → (z : S) (a b c : Moment) → b.windows ≡ a.windows → (twins leaders sum : ℕ) → sum ≡ min (twins + leaders) (2 ^ 32 - 1)
      → CountsTwins l a twins → Touches (is_twin l) a b → IsLed state has k z leaders b c → IsHealed state has k z a c sum
  healed_all k l same z a b c windows twins leaders sum is of_twins first led = record {
    counts = record {
      twin_count = twins;
      leader_count = leaders;
      sum = is;
      of_twins = subst (λ (x : Layout). CountsTwins x a twins) (sym same) of_twins;
      of_leaders = counts_as (λ e. IsTrue (is_data k.mounted.volume.layout (leader_place e))) (NeedsLeader b) (StandsLed b.image) (NeedsLeader a) (StandsLed a.image)
          (λ e inside needs. needed_leader a b windows e (worn e inside) needs) (λ e inside well. stood_led a b windows e (worn e inside) well) (volume_of k).entries leaders led.places led.counts;
    };
    stands = led.stands;
    led = subst (λ (w : Windows). AllByRecursion (HasLeader (open_damage w) c.image) (volume_of k).entries) windows led.led;
    touches = touches_then (is_twin l) (is_leader (volume_of k).entries) (heal_writes k) a b c (twin_part k l same) (leader_part k) windows first led.touches;
  }
    where
      worn : (e : Entry) → IsTrue (is_data k.mounted.volume.layout (leader_place e)) → SectorWorn (open_damage a.windows (leader_place e)) (sector_at a.image (leader_place e)) (sector_at b.image (leader_place e))
      worn e inside = first.others (leader_place e) (twin_out l (leader_place e) (subst (λ (x : Layout). IsFalse (mount_writes x (leader_place e))) same (data_out k.mounted.volume.layout (leader_place e) inside)))

  -- where it fails, it ends as its part did
  pub led_ends : (k : Known) (z : S) (a b now : Moment) (why : Refusal) → (let r : Result ℕ Refusal = Err why in EndsLed state has k z b now r) → (let r : Result Healed Refusal = Err why in EndsHealed state has k z a now r)
  led_ends k z a b now (Why.Device s) ends = ends
  led_ends k z a b now Why.Memory ends = ends
  led_ends k z a b now why ends = absurd ends

  pub twins_end : (k : Known) (z : S) (a now : Moment) (why : Refusal) → (let r : Result ℕ Refusal = Err why in StandsStill state has k z now r) → (let r : Result Healed Refusal = Err why in EndsHealed state has k z a now r)
  twins_end k z a now (Why.Device s) ends = ends
  twins_end k z a now why ends = absurd ends

  -- ---- what is found behind that

  whole_back : (weak : Bool) (x y : Sector) (bytes : List ℕ) → SectorWorn weak x y → y ≡ Whole bytes → x ≡ Whole bytes
  whole_back weak x y bytes (inl same) is = sym same ∙ is
  whole_back weak x y bytes (inr hurt) is = absurd (cc (hurt.1, is))

  module _ (k : Known) (a b : Moment) (touches : Touches (heal_writes k) a b) where
    stayed : (s : ℕ) → IsInner k.mounted.volume.layout (volume_of k).entries s → IsWhole b.image s → IsWhole a.image s
    stayed s inner whole = (
      whole.0,
      whole_back (open_damage a.windows s) (sector_at a.image s) (sector_at b.image s) whole.0
          (touches.others s (or_from (mount_writes k.mounted.volume.layout s) (is_leader (volume_of k).entries s) (data_out k.mounted.volume.layout s inner.0) inner.1)) whole.1,
    )

    pub found_since : (j : Image) → Apart k.mounted.volume.layout (plans_of (volume_of k).entries) → (found : List (Key × ℕ)) → Picks b.image j (all_data (volume_of k).entries) found → Picks a.image j (all_data (volume_of k).entries) found
    found_since j apart found picks = picks_longer (IsInner k.mounted.volume.layout (volume_of k).entries) a.image b.image j j stayed (λ s inner hurt. hurt) (all_data (volume_of k).entries) found (data_apart k.mounted.volume.layout (volume_of k).entries apart) picks

    pub some_since : (j : Image) → Apart k.mounted.volume.layout (plans_of (volume_of k).entries) → (found : List (Key × ℕ)) → PicksSome b.image j (all_data (volume_of k).entries) found → PicksSome a.image j (all_data (volume_of k).entries) found
    some_since j apart found some = record {
      done = some.done;
      rest = some.rest;
      are = some.are;
      picks = picks_longer (IsInner k.mounted.volume.layout (volume_of k).entries) a.image b.image j j stayed (λ s inner hurt. hurt) some.done found
          (all_front some.done some.rest (subst (λ (xs : List (Key × ℕ)). AllByRecursion {X = Key × ℕ} (λ x. IsInner k.mounted.volume.layout (volume_of k).entries x.1) xs) some.are (data_apart k.mounted.volume.layout (volume_of k).entries apart))) some.picks;
    }
      where
        all_front : (xs ys : List (Key × ℕ)) → AllByRecursion {X = Key × ℕ} (λ x. IsInner k.mounted.volume.layout (volume_of k).entries x.1) (xs ++ ys) → AllByRecursion {X = Key × ℕ} (λ x. IsInner k.mounted.volume.layout (volume_of k).entries x.1) xs
        all_front [] ys all = tt
        all_front (x ∷ xs) ys all = (all.0, all_front xs ys all.1)

  -- the same while sectors are read
  pub healed_worn : (k : Known) (y z : S) (a b c : Moment) (healed : ℕ) → b.windows ≡ a.windows → IsHealed state has k y a b healed → Wears b c → Stands state has z k c → IsHealed state has k z a c healed
  healed_worn k y z a b c healed windows is worn stands = record {
    counts = is.counts;
    stands = stands;
    led = leaders_then (open_damage a.windows) b.image c.image (volume_of k).entries (λ s there. subst (λ (w : Windows). SectorWorn (open_damage w s) (sector_at b.image s) (sector_at c.image s)) windows (worn.image.each s)) is.led;
    touches = touches_then (heal_writes k) (heal_writes k) (heal_writes k) a b c (λ s out. out) (λ s out. out) windows is.touches (worn_touches (heal_writes k) b c worn.image);
  }

  pub looking_ends : (k : Known) (z : S) (a c : Moment) (found : List (Key × ℕ)) (why : Refusal) → IsFromOutside why → IsLooking state has k z a c found → (let r : Result Healed Refusal = Err why in EndsLooked state has k z a c found r)
  looking_ends k z a c found (Why.Device s) outside looking = looking
  looking_ends k z a c found Why.Memory outside looking = looking
  looking_ends k z a c found why outside looking = absurd outside

  pub unlooked_ends : (k : Known) (z : S) (a c : Moment) (found : List (Key × ℕ)) → found ≡ [] → (why : Refusal) → (let r : Result Healed Refusal = Err why in EndsHealed state has k z a c r) → (let r : Result Healed Refusal = Err why in EndsLooked state has k z a c found r)
  unlooked_ends k z a c found none (Why.Device s) stands = record { stands = stands; finds = subst (PicksSome a.image c.image (all_data (volume_of k).entries)) (sym none) (none_found a.image c.image (all_data (volume_of k).entries)) }
  unlooked_ends k z a c found none Why.Memory stands = record { stands = stands; finds = subst (PicksSome a.image c.image (all_data (volume_of k).entries)) (sym none) (none_found a.image c.image (all_data (volume_of k).entries)) }
  unlooked_ends k z a c found none why ends = absurd ends

-- ---- behind the force

module _ (k after : Known) (forces : IsForcedFrom k after) where
  same_layout : after.mounted.volume.layout ≡ k.mounted.volume.layout
  same_layout = ap (λ (v : Volume). v.layout) forces.volume

  same_entries : (volume_of after).entries ≡ (volume_of k).entries
  same_entries = ap (λ (v : Volume). v.entries) forces.volume

  same_writes : heal_writes after ≡ heal_writes k
  same_writes = ap (λ (v : Volume). (λ (s : ℕ). mount_writes v.layout s || is_leader v.entries s)) forces.volume

  more_forced : forced_of k ≤ forced_of after
  more_forced = let none = ap (λ (v : Volume). v.unforced) forces.volume in let all = ap (λ (h : List Change). length h) forces.changes in omega (arith, none, all)

  module _ (l : Layout) (same : k.mounted.volume.layout ≡ l) (a b : Moment) (windows : b.windows ≡ a.windows) (first : Touches (force_writes l) a b) where
    force_part : (s : ℕ) → IsFalse (heal_writes k s) → IsFalse (force_writes l s)
    force_part s out = subst (λ (x : Layout). IsFalse (force_writes x s)) same (force_out k.mounted.volume.layout s (mount_part k s out))

    all_touched : (c : Moment) → Touches (heal_writes after) b c → Touches (heal_writes k) a c
    all_touched c then = touches_then (force_writes l) (heal_writes k) (heal_writes k) a b c force_part (λ s out. out) windows first (subst (λ (may : Sectors). Touches may b c) same_writes then)

    pub behind_leaves : b.said ≡ a.said → (left : Moment) → LeavesSound after (heal_writes after) b left → LeavesSound k (heal_writes k) a left
    behind_leaves said left leaves = record {
      sound = sound_fewer k.mounted.volume.layout k.windows k.changes (forced_of k) (forced_of after) left.image more_forced
          (subst (λ (x : Layout). IsSound x k.windows k.changes (forced_of after) left.image) same_layout
          (subst (λ (w : List WeakRun). IsSound after.mounted.volume.layout w k.changes (forced_of after) left.image) forces.windows
          (subst (λ (h : List Change). IsSound after.mounted.volume.layout after.windows h (forced_of after) left.image) forces.changes leaves.sound)));
      roots = subst (λ (x : Layout). HasOwnRoots x (weak_of k.windows) left.image) same_layout (subst (λ (w : List WeakRun). HasOwnRoots after.mounted.volume.layout (weak_of w) left.image) forces.windows leaves.roots);
      windows = leaves.windows ∙ windows;
      said = leaves.said ∙ said;
      touches = all_touched left leaves.touches;
    }

    module _ {S : Type 0} (state : S → State) (has : S → Mounted → List Placed → Type 0) (new : S) (c : Moment) (found : List (Key × ℕ)) (apart : Apart k.mounted.volume.layout (plans_of (volume_of k).entries)) where
      stayed_forced : Touches (heal_writes k) a b
      stayed_forced = record { size = first.size; others = λ s out. first.others s (force_part s out) }

      scrubbing : IsLooking state has after new b c found → IsScrubbing state has k new a c found
      scrubbing looking = record {
        after = after;
        forces = forces;
        stands = looking.stands;
        finds = some_since state has k a b stayed_forced c.image apart found (subst (λ (es : List Entry). PicksSome b.image c.image (all_data es) found) same_entries looking.finds);
      }

      pub scrub_ends : (by : S) → Stands state has by after b → (k.mounted.dirty ≡ [] → b ≡ a) → (r : Result Healed Refusal) → EndsLooked state has after new b c found r → EndsScrub state has k new a c found r
      scrub_ends by stood idle (Ok healed) looked = record {
        windows = windows;
        idle = idle;
        by = by;
        stood = stood;
        after = after;
        forces = forces;
        stands = looked.healed_so.stands;
        touches = all_touched c looked.healed_so.touches;
        finds = found_since state has k a b stayed_forced c.image apart found (subst (λ (es : List Entry). Picks b.image c.image (all_data es) found) same_entries looked.finds);
        led = subst (λ (es : List Entry). AllByRecursion (HasLeader (open_damage a.windows) c.image) es) same_entries (subst (λ (w : Windows). AllByRecursion (HasLeader (open_damage w) c.image) (volume_of after).entries) windows looked.healed_so.led);
        behind = b;
        force = subst (λ (x : Layout). Touches (force_writes x) a b) (sym same) first;
        heals = subst (λ (x : Layout). CountsHealed x (volume_of k).entries b healed.sectors) same_layout (subst (λ (es : List Entry). CountsHealed after.mounted.volume.layout es b healed.sectors) same_entries looked.healed_so.counts);
      }
      scrub_ends by stood idle (Err (Why.Device s)) looking = inr (scrubbing looking)
      scrub_ends by stood idle (Err Why.Memory) looking = scrubbing looking
      scrub_ends by stood idle (Err why) ends = absurd ends

pub forced_from : (k after : Known) (reply : Reply) → Answers (λ met. force_outcome (volume_of k)) reply [] k after → IsForcedFrom k after
forced_from k after reply answers = record {
  volume = sym (ap (λ (o : Outcome). o.1) answers.is);
  opened = answers.opened;
  windows = answers.windows;
  changes = answers.changes ∙ append-nil k.changes;
}

pub force_leaves : (k : Known) (l : Layout) → k.mounted.volume.layout ≡ l → (a left : Moment) → LeavesSound k (force_writes l) a left → LeavesSound k (heal_writes k) a left
force_leaves k l same a left leaves = record {
  sound = leaves.sound;
  roots = leaves.roots;
  windows = leaves.windows;
  said = leaves.said;
  touches = record { size = leaves.touches.size; others = λ s out. leaves.touches.others s (subst (λ (x : Layout). IsFalse (force_writes x s)) same (force_out k.mounted.volume.layout s (mount_part k s out))) };
}

-- where it fails nothing is found
pub force_fails : {S : Type 0} (state : S → State) (has : S → Mounted → List Placed → Type 0) (k : Known) (new : S) (a now : Moment) (found : List (Key × ℕ)) → found ≡ [] → (why : Refusal)
    → (let r : Result Forced Refusal = Err why in EndsForce state has (λ met. force_outcome (volume_of k)) Replies.Forced k new now r) → (let r : Result Healed Refusal = Err why in EndsScrub state has k new a now found r)
force_fails state has k new a now found none (Why.Device s) down = inl (down, none)
force_fails state has k new a now found none why ends = absurd ends

pub force_within : (l : Layout) (a b : Moment) → Touches (force_writes l) a b → Touches (scrub_writes l) a b
force_within l a b first = record { size = first.size; others = λ s out. first.others s (force_out l s (or_parts (mount_writes l s) (is_data l s) out).0) }

pub force_rest : (l m : Layout) → m ≡ l → (a b c : Moment) → b.windows ≡ a.windows → Touches (force_writes l) a b → Touches (scrub_writes m) b c → Touches (scrub_writes l) a c
force_rest l m same a b c windows first then =
    touches_then (force_writes l) (scrub_writes l) (scrub_writes l) a b c (λ s out. force_out l s (or_parts (mount_writes l s) (is_data l s) out).0) (λ s out. out) windows first (subst (λ (x : Layout). Touches (scrub_writes x) b c) same then)
