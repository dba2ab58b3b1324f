-- The epochs of a mount: which is the last, and which follows which.
use Rattle.std.proofs.Common.{◌≡◌, ◌⊎◌, inl, inr, ⊎_elim, ℕ, ◌≤◌, Bool, true, false, cond, List, Option, Some, None, refl, sym, ap, subst, ◌∙◌, arith}
use Rattle.std.proofs.lemmas.Option.{same_Some}
use Rattle.std.specs.Prelude.{IfSome, option_and_then}
use Rattle.std.proofs.lemmas.Bool.Decides.{nat_tests}
use Rattle.volume_layout.specs.declared.layout.Layout.{Layout}
use Rattle.sector_disk.specs.declared.sector.Sector.{Sector}
use Rattle.sector_disk.specs.declared.sector.WeakRun.{WeakRun}
use Rattle.sector_disk.specs.Image.{IsWorn, open_damage, sector_at}
use Rattle.sector_disk.specs.Machine.{Moment}
use Rattle.sector_disk.proofs.Wear.{worn_refl}
use Rattle.fsd_formats.specs.declared.anchor.Anchor.{Anchor}
use Rattle.fsd_formats.specs.Anchors.{read_anchor}
use Rattle.fsd_log.specs.Scan.{is_newer, newer_of}
use Rattle.fsd_log.proofs.AnchorLaws.{newer_is_one}
use Rattle.fsd_files.specs.Disk.{Image, SectorWorn, Sectors, bytes_of}
use Rattle.fsd_runs.specs.Leaves.{AreNext, RaisesEpoch}
use Rattle.fsd_sound.specs.Anchors.{EachAnchor, anchor_at, anchor_of}
use Rattle.fsd_sound.specs.Mounting.{last_epoch}
use Rattle.fsd_sound.specs.Shown.{shown_by}
use Rattle.fsd_sound.specs.Sound.{EndIn, ShowsOne, ShowsPages, weak_of}
use Rattle.fsd_sound.specs.declared.fault.MountFault.TheVariants.{WornOut}
use Rattle.fsd_sound.proofs.AnchorFacts.{IsAnchor, newer_one}
use Rattle.fsd_sound.proofs.CoverLaws.{is_anchor_at}
use Rattle.fsd_sound.proofs.WindowLaws.{open_is_weak}
use Rattle.log_thirds.specs.LogValue.{LogValue}
use Rattle.mount_recover.specs.Recover.{IsRefusedFor, IsSettledIn}
use Rattle.volume_contract.specs.Mount.{IsAtLastEpoch}

-- ---- the last epoch

-- an anchor of the last epoch is not passed by the other copy
last_stays : (x y : Option Anchor) → IfSome x IsAnchor → IfSome y IsAnchor → (a : Anchor) → a.epoch ≡ last_epoch → (x ≡ Some a) ⊎ (y ≡ Some a) → (t : Anchor) × (newer_of x y ≡ Some t) × (t.epoch ≡ last_epoch)
last_stays None None p q a last (inl is) = absurd (cc is)
last_stays None None p q a last (inr is) = absurd (cc is)
last_stays None (Some b) p q a last (inl is) = absurd (cc is)
last_stays None (Some b) p q a last (inr is) = (b, refl, ap (λ (z : Anchor). z.epoch) (same_Some b a is) ∙ last)
last_stays (Some c) None p q a last (inl is) = (c, refl, ap (λ (z : Anchor). z.epoch) (same_Some c a is) ∙ last)
last_stays (Some c) None p q a last (inr is) = absurd (cc is)
last_stays (Some c) (Some b) p q a last is = by (is_newer b c) refl
  where
    one : (c.epoch ≡ last_epoch) ⊎ (b.epoch ≡ last_epoch)
    one = ⊎_elim (λ e. inl (ap (λ (z : Anchor). z.epoch) (same_Some c a e) ∙ last)) (λ e. inr (ap (λ (z : Anchor). z.epoch) (same_Some b a e) ∙ last)) is

    newer_from : is_newer b c ≡ true → c.epoch ≤ b.epoch
    newer_from test = grind (arith, nat_tests)

    older_from : is_newer b c ≡ false → b.epoch ≤ c.epoch
    older_from test = grind (arith, nat_tests)

    by : (test : Bool) → is_newer b c ≡ test → (t : Anchor) × (Some (cond test b c) ≡ Some t) × (t.epoch ≡ last_epoch)
    by true test = let le = newer_from test in (b, refl, ⊎_elim (λ e. let top = q.epoch in omega (arith, le, e, top)) (λ e. e) one)
    by false test = let le = older_from test in (c, refl, ⊎_elim (λ e. e) (λ e. let top = p.epoch in omega (arith, le, e, top)) one)

-- an anchor that is there was there before the wear
anchor_before : (weak : Sectors) (i j : Image) (s : ℕ) (a : Anchor) → IsWorn weak i j → anchor_at j s ≡ Some a → anchor_at i s ≡ Some a
anchor_before weak i j s a worn is = by (worn.each s)
  where
    by : SectorWorn (weak s) (sector_at i s) (sector_at j s) → anchor_at i s ≡ Some a
    by (inl same) = ap (λ (x : Sector). option_and_then read_anchor (bytes_of x)) (sym same) ∙ is
    by (inr hurt) = absurd (let none : option_and_then read_anchor (bytes_of (sector_at j s)) ≡ None = ap (λ (x : Sector). option_and_then read_anchor (bytes_of x)) hurt.1 in cc (none, is))

all_anchors : (i : Image) (s : ℕ) → IfSome (anchor_at i s) IsAnchor
all_anchors i s = by (anchor_at i s) refl
  where
    by : (o : Option Anchor) → anchor_at i s ≡ o → IfSome o IsAnchor
    by None is = tt
    by (Some a) is = is_anchor_at i s a is

-- a mount that is refused for the last epoch was so by the image itself
pub at_last_epoch : (sectors : ℕ) (old : Moment) → IsRefusedFor sectors WornOut old → IsAtLastEpoch old.image
at_last_epoch sectors old is =
    let seen = is.seen in
    let why = is.why in
    let weak = open_damage old.windows in
    let there : (anchor_at old.image 8 ≡ Some why.anchor) ⊎ (anchor_at old.image 12 ≡ Some why.anchor) =
    ⊎_elim (λ e. inl (anchor_before weak old.image seen 8 why.anchor is.from e)) (λ e. inr (anchor_before weak old.image seen 12 why.anchor is.from e)) (newer_is_one (anchor_at seen 8) (anchor_at seen 12) why.anchor why.found.anchor) in
    let last = last_stays (anchor_at old.image 8) (anchor_at old.image 12) (all_anchors old.image 8) (all_anchors old.image 12) why.anchor why.epoch there in
    record { anchor = last.0; taken = last.1; last = last.2 }

-- ---- the next epoch

-- where the anchors that stand are all this one, it is the image's
own_taken : (l : Layout) (windows : List WeakRun) (choices : List (List (List ℕ))) (a : Anchor) (i : Image) → ShowsPages l windows choices i → EachAnchor i (λ b. b ≡ a) → anchor_of i ≡ Some a
own_taken l windows choices a i shows own =
    by (anchor_of i) refl (shows.shows i (worn_refl (weak_of windows) i)) (newer_one (λ b. b ≡ a) (anchor_at i 8) (anchor_at i 12) own.0 own.1)
  where
    by : (o : Option Anchor) → anchor_of i ≡ o → ShowsOne choices (option_and_then (shown_by l i) o) → IfSome o (λ b. b ≡ a) → anchor_of i ≡ Some a
    by None is shows same = absurd shows
    by (Some t) is shows same = is ∙ ap (λ (x : Anchor). Some x) same

pub raised : (sectors : ℕ) (l : Layout) (windows : List WeakRun) (log : LogValue) (old mid : Moment) → EndIn old.windows windows → IsSettledIn sectors l log old mid
    → (later : List WeakRun) (choices : List (List (List ℕ))) (from : Image) → ShowsPages l later choices from → EachAnchor from (λ b. b ≡ log.anchor) → RaisesEpoch windows old.image from
raised sectors l windows log old mid ends is later choices from shows own = record {
  left = is.seen;
  worn = open_is_weak old.windows windows old.image is.seen ends is.from;
  next = subst (λ (o : Option Anchor). AreNext o (anchor_of from)) (sym is.settled.found.anchor)
      (subst (AreNext (Some is.settled.anchor)) (sym (own_taken l later choices log.anchor from shows own)) (let next = is.settled.epoch in omega (arith, next)));
}
