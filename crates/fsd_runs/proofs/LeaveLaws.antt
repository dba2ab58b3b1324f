-- Runs go on from what a stop leaves; and where no fault is counted a run says all, or that memory was refused.
use Rattle.std.proofs.Common.{◌≡◌, ◌⊎◌, inl, inr, ⊎_elim, ℕ, zero, suc, ◌+◌, ◌≤◌, List, [], ◌∷◌, ◌++◌, length, take, None, refl, sym, ap, ◌∙◌, arith}
use Rattle.std.specs.Prelude.{min}
use Rattle.std.specs.List.{last_or}
use Rattle.std.proofs.lemmas.List.{length-take, take-append-le}
use Rattle.volume_layout.specs.declared.layout.Layout.{Layout}
use Rattle.volume_layout.specs.Layout.{IsFormOf}
use Rattle.volume_layout.specs.Root.{root_bytes}
use Rattle.sector_disk.specs.declared.sector.Sector.TheVariants.{Whole}
use Rattle.sector_disk.specs.declared.sector.WeakRun.{WeakRun}
use Rattle.sector_disk.specs.Image.{Windows, sector_at}
use Rattle.fsd_files.specs.Disk.{Has, Image, Sectors}
use Rattle.fsd_files.specs.Volume.{Volume}
use Rattle.sector_disk.specs.Machine.{Moment, Report}
use Rattle.fsd_files.specs.Files.{Change}
use Rattle.fsd_sound.specs.Laid.{HasOwnRoots}
use Rattle.fsd_sound.specs.Sound.{IsPrefixOf, IsRootAt, IsSaid, Says, weak_of}
use Rattle.fsd_sound.proofs.BesideLaws.{said_sound}
use Rattle.fsd_sound.proofs.WindowLaws.{last_snoc}
use Rattle.fsd_sound.proofs.SectorFacts.{has_bytes}
use Rattle.fsd_texts.specs.declared.fault.Fault.{Fault}
use Rattle.fsd_texts.specs.declared.fault.Fault.TheVariants as Ends
use Rattle.fsd_texts.specs.Text.{fault_text, memory_text}
use Rattle.fsd_runs.specs.declared.request.Request.{Request}
use Rattle.fsd_runs.specs.declared.request.Request.TheVariants as Asks
use Rattle.fsd_runs.specs.Errands.{Turn, fault_status}
use Rattle.fsd_runs.specs.Leaves.{IfOne, IsBrokenOff, IsOutside, IsReplied, IsSoundAsSaid, IsUnsaid, Left, NoneRose, SaysThen, StaysSound}
use Rattle.fsd_runs.specs.Runs.{changes_in}

take_of_take : (f n : ℕ) (h : List Change) → f ≤ n → take f (take n h) ≡ take f h
take_of_take zero n h le = refl
take_of_take (suc f) zero h le = absurd (omega (arith, le))
take_of_take (suc f) (suc n) [] le = refl
take_of_take (suc f) (suc n) (c ∷ h) le = ap (λ (x : List Change). c ∷ x) (take_of_take f n h (omega (arith, le)))

-- whatever a stop leaves is sound again
pub left_stays : (l layout : Layout) → IsFormOf l layout → (windows : List WeakRun) (run : WeakRun) (h : List Change) (f n : ℕ) (turns : List Turn) (old left : Moment) → IsPrefixOf h f n → last_or None windows ≡ old.windows.present
    → Left layout windows run h f n turns old left → StaysSound l h f left
left_stays l layout form windows run h f n turns old left prefix ends (inl b) =
    record { layout = layout; form = form; windows = windows; changes = h; count = f; keeps = record { forced = omega arith; same = refl }; present = ends ∙ sym b.present; sound = b.sound }
left_stays l layout form windows run h f n turns old left prefix ends (inr s) =
    let forced = prefix.forced in
    let made = prefix.made in
    let long : length (take n h) ≡ min n (length h) = length-take n h in
    let few : f ≤ length (take n h) = omega (arith, forced, made, long) in
    record {
      layout = layout;
      form = form;
      windows = windows ++ run ∷ [];
      changes = take n h ++ changes_in (take (suc s.whole) turns);
      count = n + s.forced;
      keeps = record { forced = omega (arith, forced); same = take-append-le f (take n h) (changes_in (take (suc s.whole) turns)) few ∙ take_of_take f n h forced };
      present = last_snoc None windows run ∙ sym (ap (λ (w : Windows). w.present) s.settled);
      sound = s.sound;
    }

-- ---- of one command

pub one_more : (request : Request) {P Q : Type 0} → (P → Q) → IfOne request P → IfOne request Q
one_more (Asks.One command) weaker fact = weaker fact
one_more request weaker fact = tt

-- ---- with the same machine

-- both of a disk's roots are as those of one that says this layout
module _ (l other own k : Layout) (weak : Sectors) (i j : Image) (at_i : HasOwnRoots own weak i) (at_j : HasOwnRoots own weak j) (says : Says k i) where
  root_is : root_bytes own ≡ root_bytes k
  root_is = ⊎_elim (λ first. has_bytes weak i (root_bytes own) (root_bytes k) 0 at_i.0 first) (λ second. has_bytes weak i (root_bytes own) (root_bytes k) 4 at_i.1 second) says

  root_there : (s : ℕ) → Has weak j (root_bytes own) s → IsRootAt l other j s → sector_at j s ≡ Whole (root_bytes k)
  root_there s has root = root.1 ∙ ap (λ (bytes : List ℕ). Whole bytes) (sym (has_bytes weak j (root_bytes own) root.0 s has root.1) ∙ root_is)

  says_there : IsRootAt l other j 0 ⊎ IsRootAt l other j 4 → Says k j
  says_there some = ⊎_elim (λ first. inl (root_there 0 at_j.0 first)) (λ second. inr (root_there 4 at_j.1 second)) some

-- behind a run that has said all, what is held back is sound by each layout that is said
pub replied_held : (l : Layout) (windows : List WeakRun) (run : WeakRun) (h : List Change) (n : ℕ) (turns : List Turn) (status : ℕ) (behind : Volume) (old new held : Moment) (result : ℕ)
    → IsReplied l windows run h n turns status behind (λ P. P held) old new result
    → IsSoundAsSaid l (windows ++ run ∷ []) (take n h ++ changes_in turns) (n + length (changes_in turns)) new.image held.image
replied_held l windows run h n turns status behind old new held result x layout said = said_sound l (windows ++ run ∷ []) (take n h ++ changes_in turns) (n + length (changes_in turns)) held.image layout (there said) x.held
  where
    there : IsSaid l new.image layout → IsSaid l held.image layout
    there (inl is) = inl is
    there (inr (is, says)) = inr (is, says_there l x.held.readable.roots.other behind.layout layout (weak_of (windows ++ run ∷ [])) new.image held.image x.roots x.rooted says x.held.readable.roots.some)

-- a run that neither says all nor has a fault counted says that memory was refused
pub broken_by_memory : (request : Request) (Undone : ℕ → Image → Type 0) (UnderWay : ℕ → Type 0) (before after : Report) (turns : List Turn) (old new : Moment) (result : ℕ) → NoneRose before after
    → IsUnsaid before after result ⊎ IsBrokenOff request Undone UnderWay before after turns old new result → (result ≡ 7) × (x : SaysThen turns memory_text old new) × Undone x.whole new.image
broken_by_memory request Undone UnderWay before after turns old new result none (inl unsaid) = absurd (none.output unsaid.rose)
broken_by_memory request Undone UnderWay before after turns old new result none (inr broken) = by request broken.why broken.outside broken.ends broken.says broken.undone
  where
    by : (r : Request) (why : Fault) → IsOutside r before after why → result ≡ fault_status why → (x : SaysThen turns (fault_text why) old new) → (why ≡ Ends.Memory → Undone x.whole new.image)
        → (result ≡ 7) × (x : SaysThen turns memory_text old new) × Undone x.whole new.image
    by r (Ends.Device s) outside ends says undone = absurd (none.disk outside.rose)
    by r Ends.Memory outside ends says undone = (ends, says, undone refl)
    by (Asks.Put name keep) Ends.Input outside ends says undone = absurd (none.input outside)
    by Asks.Restore Ends.Input outside ends says undone = absurd (none.input outside)
    by r why outside ends says undone = absurd outside
