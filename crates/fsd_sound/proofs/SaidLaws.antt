-- Which layouts the roots of an image say.
use Rattle.std.proofs.Common.{◌≡◌, ◌⊎◌, inl, inr, ⊎_elim, ℕ, ◌<◌, List, Option, Some, sym, ap, subst, ◌∙◌, arith}
use Rattle.volume_layout.specs.declared.layout.Layout.{Layout}
use Rattle.volume_layout.specs.Layout.{IsBeside, IsPlanned, turned, with_sectors}
use Rattle.volume_layout.specs.Root.{read_root, root_bytes}
use Rattle.volume_layout.proofs.RootLaws.{planned_root_is_read}
use Rattle.volume_layout.proofs.TurnedLaws.{planned_turned, roots_differ, turned_twice}
use Rattle.sector_disk.specs.declared.sector.Sector.TheVariants.{Whole}
use Rattle.sector_disk.specs.Image.{sector_at, IsWorn}
use Rattle.sector_disk.proofs.Wear.{worn_whole}
use Rattle.fsd_files.specs.Disk.{Image, SectorWorn, Sectors, Has}
use Rattle.fsd_sound.specs.Laid.{HasOwnRoots}
use Rattle.fsd_sound.specs.Sound.{EachBeside, EachSaid, HasRoots, IsRootAt, IsRootOf, IsSaid, Says, SaysNoMore, SaysTurned}
use Rattle.fsd_sound.proofs.SectorFacts.{has_bytes, whole_before}

-- ---- two images

module _ (k : Layout) (i j : Image) where
  -- what a root says that stands whole, it said before
  pub says_before : ((s : ℕ) (bytes : List ℕ) → s < 8 → sector_at j s ≡ Whole bytes → sector_at i s ≡ Whole bytes) → Says k j → Says k i
  says_before was = ⊎_elim (λ is. inl (was 0 (root_bytes k) (omega arith) is)) (λ is. inr (was 4 (root_bytes k) (omega arith) is))

  pub says_same : ((s : ℕ) → s < 8 → sector_at j s ≡ sector_at i s) → Says k j → Says k i
  says_same head = says_before (λ s bytes lt is. sym (head s lt) ∙ is)

  pub says_worn : (weak : Sectors) → IsWorn weak i j → Says k j → Says k i
  says_worn weak w = says_before (λ s bytes lt is. worn_whole weak i j s bytes w is)

  root_same : (o : Layout) (s : ℕ) → sector_at j s ≡ sector_at i s → IsRootAt k o i s → IsRootAt k o j s
  root_same o s same root = (root.0, same ∙ root.1, root.2)

  pub some_same : (o : Layout) → sector_at j 0 ≡ sector_at i 0 → sector_at j 4 ≡ sector_at i 4 → IsRootAt k o i 0 ⊎ IsRootAt k o i 4 → IsRootAt k o j 0 ⊎ IsRootAt k o j 4
  some_same o first second = ⊎_elim (λ root. inl (root_same o 0 first root)) (λ root. inr (root_same o 4 second root))

  -- a layout that is said, it was before
  pub said_before : (l : Layout) → (Says k j → Says k i) → IsSaid l j k → IsSaid l i k
  said_before l was (inl is) = inl is
  said_before l was (inr is) = inr (is.0, was is.1)

-- ---- no layout that was not said

-- where the roots are at most worn
pub says_no_more : (weak : Sectors) (i j : Image) → ((s : ℕ) → s < 8 → SectorWorn (weak s) (sector_at i s) (sector_at j s)) → SaysNoMore i j
says_no_more weak i j worn k = says_before k i j (λ s bytes low is. whole_before (weak s) (sector_at i s) (sector_at j s) bytes (worn s low) is)

pub worn_says : (weak : Sectors) (i j : Image) → IsWorn weak i j → SaysNoMore i j
worn_says weak i j w k = says_worn k i j weak w

pub says_no_more_then : (i j k : Image) → SaysNoMore i j → SaysNoMore j k → SaysNoMore i k
says_no_more_then i j k first second l says = first l (second l says)

-- what has the same root is said as well
pub says_as : (l k : Layout) (i : Image) → root_bytes l ≡ root_bytes k → Says l i → Says k i
says_as l k i same = ⊎_elim (λ is. inl (is ∙ ap (λ (b : List ℕ). Whole b) same)) (λ is. inr (is ∙ ap (λ (b : List ℕ). Whole b) same))

-- what is so of each that is said stays so
pub each_no_more : (i j : Image) (P : Layout → Type 0) → SaysNoMore i j → EachSaid i P → EachSaid j P
each_no_more i j P less each k planned says = each k planned (less k says)

pub worn_each : (weak : Sectors) (i j : Image) (P : Layout → Type 0) → IsWorn weak i j → EachSaid i P → EachSaid j P
worn_each weak i j P w = each_no_more i j P (worn_says weak i j w)

-- ---- layouts with the same root

-- two that may be planned have different roots
pub same_root : (k l : Layout) → IsPlanned k → IsPlanned l → root_bytes k ≡ root_bytes l → k ≡ l
same_root k l planned there same =
    some_is_one k l (sym (planned_root_is_read k planned) ∙ ap read_root same ∙ planned_root_is_read l there)
  where
    some_is_one : (a b : Layout) → ◌≡◌ {A = Option Layout} (Some a) (Some b) → a ≡ b
    some_is_one a b is = cc is

-- what is beside one that may be planned, may be so
pub planned_beside : (l k : Layout) → IsPlanned l → IsBeside l k → IsPlanned k
planned_beside l k planned (inl is) = subst (λ (x : Layout). IsPlanned x) (sym is) (planned_turned l planned)
planned_beside l k planned (inr is) = is.planned

-- it is another one
pub beside_other : (l k : Layout) → IsBeside l k → k ≡ l → ⊥
beside_other l k (inl is) same = roots_differ l (ap root_bytes (sym same ∙ is))
beside_other l k (inr is) same = is.other (ap (λ (x : Layout). x.sectors) same)

-- and this is beside that
pub beside_back : (l k : Layout) → IsPlanned l → IsBeside l k → IsBeside k l
beside_back l k planned (inl is) = inl (sym (turned_twice l) ∙ ap turned (sym is))
beside_back l k planned (inr is) = inr (record { other = λ same. is.other (sym same); form = ap (λ (x : Layout). with_sectors l.sectors x) (sym is.form); map = sym is.map; planned = planned })

-- ---- the roots of an image

module _ (l : Layout) (weak : Sectors) (i : Image) (roots : HasRoots l weak i) where
  pub other_planned : IsPlanned roots.other
  other_planned = planned_beside l roots.other roots.planned roots.beside

  pub says_which : (k : Layout) → IsPlanned k → IsRootOf l roots.other (root_bytes k) → (k ≡ l) ⊎ (k ≡ roots.other)
  says_which k planned (inl is) = inl (same_root k l planned roots.planned is)
  says_which k planned (inr is) = inr (same_root k roots.other planned other_planned is)

  -- a layout that a root says is one of the two
  says_one : (k : Layout) → IsPlanned k → Says k i → (k ≡ l) ⊎ (k ≡ roots.other)
  says_one k planned = ⊎_elim (λ is. says_which k planned (roots.first (root_bytes k) is)) (λ is. says_which k planned (roots.second (root_bytes k) is))

  -- and one beside the layout is the other
  pub said_other : (k : Layout) → IsBeside l k → Says k i → k ≡ roots.other
  said_other k beside says = ⊎_elim (λ same. absurd (beside_other l k beside same)) (λ other. other) (says_one k (planned_beside l k roots.planned beside) says)

  -- what is so of each one beside it that a root says
  pub said_either : (P : Layout → Type 0) → EachBeside l i P → EachSaid i (λ k. P k ⊎ (k ≡ l))
  said_either P each k planned says = ⊎_elim (λ same. inr same) (λ other. inl (each k (subst (IsBeside l) (sym other) roots.beside) says)) (says_one k planned says)

-- what is said beside a layout that is said, is said
pub said_again : (l : Layout) (weak : Sectors) (i : Image) (found k : Layout) → HasRoots l weak i → IsSaid l i found → IsSaid found i k → IsSaid l i k
said_again l weak i found k roots (inl is) (inl same) = inl (same ∙ is)
said_again l weak i found k roots (inl is) (inr more) = inr (subst (λ (x : Layout). IsBeside x k) is more.0, more.1)
said_again l weak i found k roots (inr is) (inl same) = subst (IsSaid l i) (sym same) (inr is)
said_again l weak i found k roots (inr is) (inr more) =
    let planned = planned_beside found k (planned_beside l found roots.planned is.0) more.0 in
    ⊎_elim (λ same. inl same) (λ other. inr (subst (IsBeside l) (sym other) roots.beside, more.1)) (says_one l weak i roots k planned more.1)

-- ---- a mounted volume's own roots

pub own_root : (l k : Layout) (weak : Sectors) (i : Image) → HasOwnRoots l weak i → Says k i → root_bytes l ≡ root_bytes k
own_root l k weak i own = ⊎_elim (λ is. has_bytes weak i (root_bytes l) (root_bytes k) 0 own.0 is) (λ is. has_bytes weak i (root_bytes l) (root_bytes k) 4 own.1 is)

-- they say the layout, where one stands
pub own_says : (l k other : Layout) (weak : Sectors) (i : Image) → HasOwnRoots l weak i → IsRootAt k other i 0 ⊎ IsRootAt k other i 4 → Says l i
own_says l k other weak i own = ⊎_elim (λ root. inl (at 0 own.0 root)) (λ root. inr (at 4 own.1 root))
  where
    at : (s : ℕ) → Has weak i (root_bytes l) s → IsRootAt k other i s → sector_at i s ≡ Whole (root_bytes l)
    at s has root = root.1 ∙ ap (λ (bytes : List ℕ). Whole bytes) (sym (has_bytes weak i (root_bytes l) root.0 s has root.1))

-- and no other
pub own_said : (l : Layout) (weak : Sectors) (i : Image) → IsPlanned l → HasOwnRoots l weak i → EachSaid i (λ k. k ≡ l)
own_said l weak i planned own k there says = same_root k l there planned (sym (own_root l k weak i own says))

-- none of them says the layout turned
pub own_roots_say : (l : Layout) (weak : Sectors) (i : Image) → HasOwnRoots l weak i → SaysTurned l i → ⊥
own_roots_say l weak i own says = roots_differ l (own_root l (turned l) weak i own says)

-- nor any other beside it
pub own_alone : (l k : Layout) (weak : Sectors) (i : Image) → IsPlanned l → HasOwnRoots l weak i → IsBeside l k → Says k i → ⊥
own_alone l k weak i planned own beside says = beside_other l k beside (own_said l weak i planned own k (planned_beside l k planned beside) says)
