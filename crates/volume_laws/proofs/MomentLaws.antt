-- What a mount of a sound disk leaves at each moment.
use Rattle.std.proofs.Common.{◌≡◌, inl, inr, ⊎_elim, ℕ, ◌≤◌, Bool, ◌||◌, List, [], ◌∷◌, ◌++◌, length, take, Option, Some, None, refl, sym, ap, subst, ◌∙◌, arith}
use Rattle.std.specs.Prelude.{IfSome, IsTrue, Contains}
use Rattle.std.specs.List.{last_or}
use Rattle.std.proofs.lemmas.Bool.{or_left, or_right}
use Rattle.std.proofs.lemmas.List.{take_all, length-take-le}
use Rattle.std.proofs.lemmas.List.Folds.{list_any-append}
use Rattle.volume_layout.specs.declared.layout.Layout.{Layout}
use Rattle.volume_layout.specs.Kinds.{longest_of}
use Rattle.volume_layout.proofs.RegionLaws.{regions_apart}
use Rattle.sector_disk.specs.declared.sector.Sector.{Sector}
use Rattle.sector_disk.specs.declared.sector.WeakRun.{WeakRun}
use Rattle.sector_disk.specs.Image.{AllWorn, IsWorn, in_weak_run, weak as in_window}
use Rattle.sector_disk.specs.Machine.{Moment}
use Rattle.fsd_formats.specs.declared.entry.Entry.{Entry}
use Rattle.fsd_table.specs.Table.{Telling, told_in}
use Rattle.fsd_files.specs.Disk.{Has, Image, SectorWorn, Sectors, Within, in_runs}
use Rattle.fsd_files.specs.Files.{Change, Files, after}
use Rattle.fsd_files.specs.Kept.{Describes, Kept, data_sectors, filled_slices}
use Rattle.fsd_files.proofs.WearLaws.{each_of_both}
use Rattle.fsd_sound.specs.Choices.{TellsChoices}
use Rattle.fsd_sound.specs.Mounted.{SameData}
use Rattle.fsd_sound.specs.Shown.{shown}
use Rattle.fsd_sound.specs.Sound.{AllLieIn, EndIn, HasHomes, HasLog, HasRoots, IsEither, IsPrefixOf, IsReadable, IsSaid, IsSound, LogsNothing, ShowsOne, ShowsPages, Tells, weak_of}
use Rattle.fsd_sound.proofs.ChoiceLaws.{shows_choices}
use Rattle.fsd_sound.proofs.MountedLaws.{describes_data, one_of}
use Rattle.fsd_sound.specs.Saved.{ClosesNone, IsOpen, SavesPages}
use Rattle.fsd_sound.proofs.SavedLaws.{open_saves, saves_on, worn_reads}
use Rattle.fsd_sound.proofs.SoundLaws.{sound_from_pages, weak_within_hurt}
use Rattle.fsd_sound.proofs.BesideLaws.{beside_saves, lies_own, said_shows, said_sound, tells_in}
use Rattle.fsd_sound.proofs.SaidLaws.{planned_beside, said_again}
use Rattle.fsd_sound.proofs.WindowLaws.{last_snoc}
use Rattle.mount_recover.specs.Recover.{ShowsVolume}
use Rattle.mount_recover.specs.Replay.{IsBehindSettle}
use Rattle.volume_contract.specs.Mount.{IsSoundAt}

-- ---- in more windows

-- worn first here and then there, it is worn in either
pub worn_both : (a b : Bool) (x y z : Sector) → SectorWorn a x y → SectorWorn b y z → SectorWorn (a || b) x z
worn_both a b x y z first (inr hurt) = inr (or_right a b hurt.0, hurt.1)
worn_both a b x y z (inl same) (inl again) = inl (again ∙ same)
worn_both a b x y z (inr hurt) (inl again) = inr (or_left a b hurt.0, again ∙ hurt.1)

has_more : (hurt more : Sectors) (i : Image) (bytes : List ℕ) (s : ℕ) → (IsTrue (hurt s) → IsTrue (more s)) → Has hurt i bytes s → Has more i bytes s
has_more hurt more i bytes s wider (inl is) = inl is
has_more hurt more i bytes s wider (inr is) = inr (wider is.0, is.1)

kept_more : (hurt more : Sectors) (i : Image) (files : Files) (entries : List Entry) → Within hurt more → Kept i files entries hurt → Kept i files entries more
kept_more hurt more i files entries wider kept =
    each_of_both _ _ (λ version e k. each_of_both (Has hurt i) (Has more i) (λ bytes s h. has_more hurt more i bytes s (wider s) h) (filled_slices version.1.bytes) (data_sectors e.runs) k) files entries kept

-- what is described is so by more runs, too
describes_more : (l : Layout) (hurt more : Sectors) (i : Image) (files : Files) (entries : List Entry) → Within hurt more → Describes l hurt i files entries → Describes l more i files entries
describes_more l hurt more i files entries wider d = record { lists = d.lists; apart = d.apart; kept = kept_more hurt more i files entries wider d.kept }

in_more_runs : (windows : List WeakRun) (run : WeakRun) → Within (in_runs windows) (in_runs (windows ++ run ∷ []))
in_more_runs windows run s h = list_any-append (λ (r : WeakRun). in_weak_run r s) windows (run ∷ []) ∙ or_left (in_runs windows s) (in_runs (run ∷ []) s) h

-- ---- in the same window

-- windows that end alike wear alike
either_alike : (l k : Layout) (now then : List WeakRun) (i : Image) → last_or None now ≡ last_or None then → IsEither l k now i → IsEither l k then i
either_alike l k now then i e is = record {
  borne = subst (λ (o : Option WeakRun). IfSome o (λ run. run.count ≤ longest_of k.kind)) e is.borne;
  fits = is.fits;
  opened = is.opened;
  empty = λ same. subst (λ (o : Option WeakRun). AllWorn (in_window o None) (LogsNothing l) i) e (is.empty same);
}

shows_alike : (l : Layout) (now then : List WeakRun) (pages : List (List ℕ)) (i : Image) → last_or None now ≡ last_or None then → ShowsPages l now (pages ∷ []) i → ShowsPages l then (pages ∷ []) i
shows_alike l now then pages i e is = record {
  readable = record {
    borne = subst (λ (o : Option WeakRun). IfSome o (λ run. run.count ≤ longest_of l.kind)) e is.readable.borne;
    roots = subst (λ (o : Option WeakRun). HasRoots l (in_window o None) i) e is.readable.roots;
    either = λ k beside says. either_alike l k now then i e (is.readable.either k beside says);
    anchors = is.readable.anchors;
    log = subst (λ (o : Option WeakRun). (j : Image) → IsWorn (in_window o None) i j → HasLog l (in_window o None) j) e is.readable.log;
    homes = subst (λ (o : Option WeakRun). (j : Image) → IsWorn (in_window o None) i j → HasHomes l j) e is.readable.homes;
  };
  within = is.within;
  shows = subst (λ (o : Option WeakRun). (k : Image) → IsWorn (in_window o None) i k → ShowsOne (pages ∷ []) (shown l k)) e is.shows;
}

-- a moment that has the present window of before shows its page list in the windows of before
pub shown_before : (l : Layout) (windows : List WeakRun) (choices : List (List (List ℕ))) (old left : Moment) → EndIn old.windows windows → left.windows.present ≡ old.windows.present → (is : IsBehindSettle l windows choices left) → ShowsPages l windows (is.pages ∷ []) left.image
shown_before l windows choices old left ends still is =
    let present : left.windows.present ≡ Some is.run = ap (λ w. w.present) is.settled in
    shows_alike l (windows ++ is.run ∷ []) windows is.pages left.image (last_snoc None windows is.run ∙ sym present ∙ still ∙ sym ends.last) is.shows

-- ---- by the layout that the image says

-- each list that a sound disk may show lies in the data area
pub all_lie : (l : Layout) (windows : List WeakRun) (h : List Change) (f : ℕ) (i : Image) (lists : TellsChoices l windows h f i) → AllLieIn l lists.choices
all_lie l windows h f i lists pages one = lies_own l (in_runs windows) i h f (told_in pages) (lists.tells pages one)

module _ (l : Layout) (i : Image) (layout : Layout) where
  pub said_tells : (windows : List WeakRun) (h : List Change) (f : ℕ) (lists : TellsChoices l windows h f i) → IsSaid l i layout → (pages : List (List ℕ)) → Contains lists.choices pages → Tells layout (in_runs windows) i h f (told_in pages)
  said_tells windows h f lists (inl is) pages one = subst (λ (k : Layout). Tells k (in_runs windows) i h f (told_in pages)) (sym is) (lists.tells pages one)
  said_tells windows h f lists (inr is) pages one = tells_in l layout (in_runs windows) i h f (told_in pages) (lists.tells pages one) (lists.shows.within layout is.0 is.1 pages one)

  pub said_saves : IsSaid l i layout → (windows : List WeakRun) → IsReadable l windows i → (pages : List (List ℕ)) → SavesPages l i pages → SavesPages layout i pages
  said_saves (inl is) windows readable pages saves = subst (λ (k : Layout). SavesPages k i pages) (sym is) saves
  said_saves (inr is) windows readable pages saves = beside_saves l layout windows i (readable.either layout is.0 is.1) is.0 pages saves

  -- it shows the same page lists
  abbrev pub said_lists : IsSaid l i layout → (windows : List WeakRun) (h : List Change) (f : ℕ) → TellsChoices l windows h f i → TellsChoices layout windows h f i
  said_lists said windows h f lists = record {
    choices = lists.choices;
    shows = said_shows l windows lists.choices i layout said (all_lie l windows h f i lists) lists.shows;
    tells = said_tells windows h f lists said;
    saved = λ pages one. said_saves said windows lists.shows.readable pages (lists.saved pages one);
  }

-- and is as sound
pub said_at : (sectors : ℕ) (l : Layout) (windows : List WeakRun) (h : List Change) (f : ℕ) (old : Moment) (layout : Layout) → IsSaid l old.image layout → IsSoundAt sectors l windows h f old → IsSoundAt sectors layout windows h f old
said_at sectors l windows h f old layout (inl is) begun = subst (λ (k : Layout). IsSoundAt sectors k windows h f old) (sym is) begun
said_at sectors l windows h f old layout (inr is) begun = record {
  planned = planned_beside l layout begun.planned is.0;
  fits = λ k said. begun.fits k (said_again l (weak_of windows) old.image layout k begun.sound.readable.roots (inr is) said);
  ends = begun.ends;
  sound = said_sound l windows h f old.image layout (inr is) begun.sound;
}

-- ---- what pages tell

-- The pages tell the files after a prefix of the changes, with every forced one.
pub record TellsFiles (l : Layout) (hurt : Sectors) (i : Image) (h : List Change) (f : ℕ) (pages : List (List ℕ)) : Type 0 where
  pub telling : Telling
  pub told : told_in pages ≡ Some telling
  pub count : ℕ
  pub prefix : IsPrefixOf h f count
  pub described : Describes l hurt i (after (take count h)) telling.entries

tells_files : (l : Layout) (hurt : Sectors) (i : Image) (h : List Change) (f : ℕ) (pages : List (List ℕ)) → Tells l hurt i h f (told_in pages) → TellsFiles l hurt i h f pages
tells_files l hurt i h f pages tells = by (told_in pages) refl tells
  where
    by : (o : Option Telling) → told_in pages ≡ o → Tells l hurt i h f o → TellsFiles l hurt i h f pages
    by None is tells = absurd tells
    by (Some telling) is tells = record { telling = telling; told = is; count = tells.0; prefix = tells.1; described = tells.2 }

took_so_many : (h : List Change) (n : ℕ) → n ≤ length h → length (take n h) ≡ n
took_so_many h n made = length-take-le n h made

took_again : (h : List Change) (n : ℕ) → n ≤ length h → take n (take n h) ≡ take n h
took_again h n made = take_all n (take n h) (omega (arith, took_so_many h n made))

-- the lists of pages that the disk may show, and what they tell
pub lists_now : (sectors : ℕ) (l : Layout) (windows : List WeakRun) (h : List Change) (f : ℕ) (old : Moment) → IsSoundAt sectors l windows h f old → TellsChoices l windows h f old.image
lists_now sectors l windows h f old begun = let apart = regions_apart l begun.planned in shows_choices l windows h f old.image (omega (arith, apart.map, apart.data_area)) begun.sound

module _ (sectors : ℕ) (l : Layout) (windows : List WeakRun) (h : List Change) (f : ℕ) (old : Moment) (begun : IsSoundAt sectors l windows h f old) (lists : TellsChoices l windows h f old.image) where
  pub shows_now : ShowsVolume sectors l windows lists.choices old
  shows_now = record { planned = begun.planned; fits = begun.fits; ends = begun.ends; lie = all_lie l windows h f old.image lists; shows = lists.shows }

  -- the data stays but for damage that may have come
  data_stays : (j : Image) → SameData l (weak_of windows) old.image j → SameData l (in_runs windows) old.image j
  data_stays j same s from = ⊎_elim inl (λ hurt. inr (weak_within_hurt windows s hurt.0, hurt.1)) (same s from)

  -- ---- before it settles

  tells_at : (j : Image) → SameData l (weak_of windows) old.image j → (o : Option Telling) → Tells l (in_runs windows) old.image h f o → Tells l (in_runs windows) j h f o
  tells_at j same None tells = tells
  tells_at j same (Some t) tells = (tells.0, tells.1, describes_data l (in_runs windows) (after (take tells.0 h)) t.entries old.image j (data_stays j same) tells.2)

  pub sound_before : (j : Image) → ShowsPages l windows lists.choices j → ClosesNone old.image j → SameData l (weak_of windows) old.image j → IsSound l windows h f j
  sound_before j shows closes same =
      sound_from_pages l windows h f lists.choices j shows (λ pages one. tells_at j same (told_in pages) (lists.tells pages one))
      (λ pages one. saves_on l old.image j pages closes (λ s from below. worn_reads (weak_of windows) old.image j s (same s from)) (lists.saved pages one))

  -- so it is by one page list of them
  pub sound_by_one : (pages : List (List ℕ)) → Contains lists.choices pages → (j : Image) → ShowsPages l windows (pages ∷ []) j → IsOpen j → SameData l (weak_of windows) old.image j → IsSound l windows h f j
  sound_by_one pages chosen j shows opened same =
      sound_from_pages l windows h f (pages ∷ []) j shows (λ ps one. one_of (λ qs. Tells l (in_runs windows) j h f (told_in qs)) pages ps (tells_at j same (told_in pages) (lists.tells pages chosen)) one)
      (λ ps one. open_saves l j ps opened)

  -- ---- since then

  module _ (run : WeakRun) (pages : List (List ℕ)) (chosen : Contains lists.choices pages) where
    pub files_now : TellsFiles l (in_runs windows) old.image h f pages
    files_now = tells_files l (in_runs windows) old.image h f pages (lists.tells pages chosen)

    abbrev pub count_now : ℕ
    count_now = files_now.count

    pub described_since : (j : Image) → SameData l (weak_of windows) old.image j → Describes l (in_runs (windows ++ run ∷ [])) j (after (take count_now h)) files_now.telling.entries
    described_since j same =
        describes_more l (in_runs windows) (in_runs (windows ++ run ∷ [])) j (after (take count_now h)) files_now.telling.entries (in_more_runs windows run)
        (describes_data l (in_runs windows) (after (take count_now h)) files_now.telling.entries old.image j (data_stays j same) files_now.described)

    tells_since : (j : Image) → SameData l (weak_of windows) old.image j → Tells l (in_runs (windows ++ run ∷ [])) j (take count_now h) count_now (told_in pages)
    tells_since j same =
        let made = files_now.prefix.made in
        let all : after (take count_now h) ≡ after (take count_now (take count_now h)) = ap after (sym (took_again h count_now made)) in
        subst (λ (o : Option Telling). Tells l (in_runs (windows ++ run ∷ [])) j (take count_now h) count_now o) (sym files_now.told) (
          count_now,
          record { forced = omega arith; made = omega (arith, took_so_many h count_now made) },
          subst (λ (s : Files). Describes l (in_runs (windows ++ run ∷ [])) j s files_now.telling.entries) all (described_since j same),
        )

    pub sound_since : (j : Image) → ShowsPages l (windows ++ run ∷ []) (pages ∷ []) j → IsOpen j → SameData l (weak_of windows) old.image j → IsSound l (windows ++ run ∷ []) (take count_now h) count_now j
    sound_since j shows opened same =
        sound_from_pages l (windows ++ run ∷ []) (take count_now h) count_now (pages ∷ []) j shows
        (λ ps one. one_of (λ qs. Tells l (in_runs (windows ++ run ∷ [])) j (take count_now h) count_now (told_in qs)) pages ps (tells_since j same) one)
        (λ ps one. open_saves l j ps opened)
