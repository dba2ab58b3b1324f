-- An image whose roots say a layout beside the one that it is sound by is as sound by that.
use Rattle.std.proofs.Common.{◌≡◌, ◌⊎◌, inl, inr, ⊎_elim, ℕ, List, [], ◌∷◌, map, Option, Some, None, refl, sym, ap, subst, ◌∙◌}
use Rattle.std.specs.Prelude.{IsTrue, option_and_then}
use Rattle.std.specs.List.{flat_map, list_all}
use Rattle.std.proofs.lemmas.Bool.{and_from, and_parts}
use Rattle.volume_layout.specs.declared.layout.Layout.{Layout}
use Rattle.volume_layout.specs.Layout.{is_data, IsBeside, IsFormOf, IsPlanned, IsSized, turned, with_sectors}
use Rattle.volume_layout.specs.Root.{root_bytes}
use Rattle.volume_layout.proofs.TurnedLaws.{turned_twice}
use Rattle.sector_disk.specs.declared.sector.WeakRun.{WeakRun}
use Rattle.sector_disk.specs.declared.sector.Sector.TheVariants.{Damaged}
use Rattle.sector_disk.specs.Image.{IsWorn, sector_at}
use Rattle.run_table.specs.declared.run.Run.{Run}
use Rattle.run_table.specs.RunTable.{sectors_of}
use Rattle.run_table.specs.Space.{all_differ}
use Rattle.fsd_formats.specs.declared.entry.Entry.{Entry}
use Rattle.fsd_table.specs.Table.{Telling, told_in}
use Rattle.fsd_files.specs.Disk.{Image, Sectors, in_runs}
use Rattle.fsd_files.specs.Files.{Change}
use Rattle.fsd_files.specs.Space.{Apart}
use Rattle.fsd_sound.specs.Saved.{SavesPages}
use Rattle.fsd_sound.specs.Shown.{shown, told}
use Rattle.fsd_sound.specs.Sound.{AllLieIn, HasAnchors, HasHomes, HasLog, HasRoots, IsEither, IsReadable, IsRootAt, IsRootOf, IsSaid, IsSound, LiesIn, LogsNothing, Says, ShowsOne, ShowsPages, Tells, is_twin, weak_of}
use Rattle.fsd_sound.proofs.SaidLaws.{beside_back, planned_beside, said_other}
use Rattle.fsd_sound.proofs.SavedLaws.{open_saves, saves_turned}
use Rattle.fsd_sound.proofs.SizedLaws.{anchors_sized, homes_sized, log_sized, shown_sized}
use Rattle.fsd_sound.proofs.TurnedLaws.{anchors_turned, homes_turned, log_turned, shown_turned, unlogged_turned}

-- what is so of either form is so of the layout beside
pub by_form : (P : Layout → Type 0) (l k : Layout) → IsBeside l k → (k ≡ turned l → P (turned l)) → P (with_sectors k.sectors l) → P k
by_form P l k (inl is) if_turned sized = subst P (sym is) (if_turned is)
by_form P l k (inr is) if_turned sized = subst P (sym is.form) sized

-- what is told of a layout, and lies in the data area of another, is told of that
pub tells_in : (l k : Layout) (hurt : Sectors) (j : Image) (h : List Change) (f : ℕ) (o : Option Telling) → Tells l hurt j h f o → LiesIn k o → Tells k hurt j h f o
tells_in l k hurt j h f None tells lies = absurd tells
tells_in l k hurt j h f (Some t) tells lies = (tells.0, tells.1, record { lists = tells.2.lists; apart = lies; kept = tells.2.kept })

pub lies_own : (l : Layout) (hurt : Sectors) (j : Image) (h : List Change) (f : ℕ) (o : Option Telling) → Tells l hurt j h f o → LiesIn l o
lies_own l hurt j h f None tells = tt
lies_own l hurt j h f (Some t) tells = tells.2.apart

-- a layout turned has no other number of sectors
sized_turned : (l k : Layout) → k ≡ turned l → IsSized k l → ⊥
sized_turned l k is sized = sized.other (ap (λ (x : Layout). x.sectors) (sym is))

-- what a saved map says by the one, it says by the other
pub beside_saves : (l k : Layout) (windows : List WeakRun) (i : Image) → IsEither l k windows i → IsBeside l k → (pages : List (List ℕ)) → SavesPages l i pages → SavesPages k i pages
beside_saves l k windows i either (inl is) pages saves = subst (λ (x : Layout). SavesPages x i pages) (sym is) (saves_turned l i pages saves)
beside_saves l k windows i either (inr sized) pages saves = open_saves k i pages (either.opened sized)

module _ (l k : Layout) (windows : List WeakRun) (i : Image) (beside : IsBeside l k) (says : Says k i) where
  abbrev weak : Sectors
  weak = weak_of windows

  module _ (readable : IsReadable l windows i) (other : k ≡ readable.roots.other) where
    either : IsEither l k windows i
    either = readable.either k beside says

    planned : IsPlanned k
    planned = planned_beside l k readable.roots.planned beside

    -- ---- the roots

    bytes_back : (bytes : List ℕ) → IsRootOf l readable.roots.other bytes → IsRootOf k l bytes
    bytes_back bytes (inl own) = inr own
    bytes_back bytes (inr is) = inl (is ∙ ap root_bytes (sym other))

    root_back : (s : ℕ) → IsRootAt l readable.roots.other i s → IsRootAt k l i s
    root_back s root = (root.0, root.1, bytes_back root.0 root.2)

    roots_beside : HasRoots k (weak_of windows) i
    roots_beside = record {
      planned = planned;
      other = l;
      beside = beside_back l k readable.roots.planned beside;
      some = ⊎_elim (λ root. inl (root_back 0 root)) (λ root. inr (root_back 4 root)) readable.roots.some;
      first = λ bytes is. bytes_back bytes (readable.roots.first bytes is);
      second = λ bytes is. bytes_back bytes (readable.roots.second bytes is);
      fits = either.fits;
      twins = by_form (λ (x : Layout). (s : ℕ) → IsTrue (is_twin x s) → sector_at i s ≡ Damaged → IsTrue (weak_of windows s)) l k beside (λ is. readable.roots.twins) readable.roots.twins;
    }

    -- ---- layouts beside it

    back : IsEither k l windows i
    back = record {
      borne = readable.borne;
      fits = readable.roots.fits;
      empty = λ is j w.
          let forth : k ≡ turned l = sym (turned_twice k) ∙ ap turned (sym is) in
          subst (λ (x : Layout). LogsNothing x j) (sym forth) (unlogged_turned l j (either.empty forth j w));
      opened = λ sized. ⊎_elim (λ is. absurd (sized_turned l k is sized)) (λ more. either.opened more) beside;
    }

    -- a root says no third
    which : (x : Layout) → IsBeside k x → Says x i → x ≡ l
    unfolding roots_beside
    which x at_x says_x = said_other k (weak_of windows) i roots_beside x at_x says_x

    -- ---- the whole

    shown_beside : (j : Image) → IsWorn (weak_of windows) i j → shown k j ≡ shown l j
    shown_beside j w = by_form (λ (x : Layout). shown x j ≡ shown l j) l k beside (λ is. shown_turned l j (either.empty is j w)) (shown_sized l k.sectors j)

    pub readable_beside : IsReadable k windows i
    readable_beside = record {
      borne = either.borne;
      roots = roots_beside;
      either = λ x at_x says_x. subst (λ (y : Layout). IsEither k y windows i) (sym (which x at_x says_x)) back;
      anchors = by_form (λ (x : Layout). HasAnchors x i) l k beside (λ is. anchors_turned l i readable.anchors) (anchors_sized l k.sectors i readable.anchors);
      log = λ j w. by_form (λ (x : Layout). HasLog x (weak_of windows) j) l k beside (λ is. log_turned l j (either.empty is j w) (weak_of windows)) (log_sized l k.sectors j (weak_of windows) (readable.log j w));
      homes = λ j w. by_form (λ (x : Layout). HasHomes x j) l k beside (λ is. homes_turned l j (either.empty is j w) (readable.homes j w)) (homes_sized l k.sectors j (readable.homes j w));
    }

  shows_other : (choices : List (List (List ℕ))) → AllLieIn l choices → (shows : ShowsPages l windows choices i) → k ≡ shows.readable.roots.other → ShowsPages k windows choices i
  shows_other choices lie shows other = record {
    readable = readable_beside shows.readable other;
    within = λ x at_x says_x. subst (λ (y : Layout). AllLieIn y choices) (sym (which shows.readable other x at_x says_x)) lie;
    shows = λ j w. subst (ShowsOne choices) (sym (shown_beside shows.readable other j w)) (shows.shows j w);
  }

  sound_other : (h : List Change) (f : ℕ) (sound : IsSound l windows h f i) → k ≡ sound.readable.roots.other → IsSound k windows h f i
  sound_other h f sound other = record {
    readable = readable_beside sound.readable other;
    tells = λ j w. subst (Tells k (in_runs windows) j h f) (sym (told_beside j w)) (tells_in l k (in_runs windows) j h f (told l j) (sound.tells j w) (sound.within k beside says j w));
    within = λ x at_x says_x j w.
        subst (LiesIn x) (sym (told_beside j w)) (subst (λ (y : Layout). LiesIn y (told l j)) (sym (which sound.readable other x at_x says_x)) (lies_own l (in_runs windows) j h f (told l j) (sound.tells j w)));
    saved = λ j w pages there. beside_saves l k windows i (sound.readable.either k beside says) beside pages (sound.saved j w pages (sym (shown_beside sound.readable other j w) ∙ there));
  }
    where
      told_beside : (j : Image) → IsWorn (weak_of windows) i j → told k j ≡ told l j
      told_beside j w = ap (option_and_then told_in) (shown_beside sound.readable other j w)

-- ---- the layout that is said

pub said_form : (l : Layout) (i : Image) (layout : Layout) → IsSaid l i layout → IsFormOf l layout
said_form l i layout (inl is) = inl is
said_form l i layout (inr is) = inr is.0

pub said_shows : (l : Layout) (windows : List WeakRun) (choices : List (List (List ℕ))) (i : Image) (layout : Layout) → IsSaid l i layout → AllLieIn l choices → ShowsPages l windows choices i → ShowsPages layout windows choices i
said_shows l windows choices i layout (inl is) lie shows = subst (λ (k : Layout). ShowsPages k windows choices i) (sym is) shows
said_shows l windows choices i layout (inr is) lie shows = shows_other l layout windows i is.0 is.1 choices lie shows (said_other l (weak_of windows) i shows.readable.roots layout is.0 is.1)

pub said_sound : (l : Layout) (windows : List WeakRun) (h : List Change) (f : ℕ) (i : Image) (layout : Layout) → IsSaid l i layout → IsSound l windows h f i → IsSound layout windows h f i
said_sound l windows h f i layout (inl is) sound = subst (λ (k : Layout). IsSound k windows h f i) (sym is) sound
said_sound l windows h f i layout (inr is) sound = sound_other l layout windows i is.0 is.1 h f sound (said_other l (weak_of windows) i sound.readable.roots layout is.0 is.1)

-- ---- layouts with all data of the volume's own

all_covered : (l k : Layout) → ((s : ℕ) → IsTrue (is_data l s) → IsTrue (is_data k s)) → (xs : List ℕ) → IsTrue (list_all (is_data l) xs) → IsTrue (list_all (is_data k) xs)
all_covered l k covers [] all = all
all_covered l k covers (x ∷ xs) all =
    let parts = and_parts (is_data l x) (list_all (is_data l) xs) all in
    and_from (is_data k x) (list_all (is_data k) xs) (covers x parts.0) (all_covered l k covers xs parts.1)

pub apart_covered : (l k : Layout) → ((s : ℕ) → IsTrue (is_data l s) → IsTrue (is_data k s)) → (plans : List (List Run)) → Apart l plans → Apart k plans
apart_covered l k covers plans apart =
    let sectors = flat_map sectors_of plans in
    let parts = and_parts (all_differ sectors) (list_all (is_data l) sectors) apart in
    and_from (all_differ sectors) (list_all (is_data k) sectors) parts.0 (all_covered l k covers sectors parts.1)

lies_covered : (l k : Layout) → ((s : ℕ) → IsTrue (is_data l s) → IsTrue (is_data k s)) → (o : Option Telling) → LiesIn l o → LiesIn k o
lies_covered l k covers None lies = tt
lies_covered l k covers (Some t) lies = apart_covered l k covers (map (λ (e : Entry). e.runs) t.entries) lies

-- what lies in the one lies in the other, whatever the pages
pub all_lie_covered : (l k : Layout) → ((s : ℕ) → IsTrue (is_data l s) → IsTrue (is_data k s)) → (choices : List (List (List ℕ))) → AllLieIn l choices → AllLieIn k choices
all_lie_covered l k covers choices lie pages one = lies_covered l k covers (told_in pages) (lie pages one)
