-- How a version comes to be held.
use Rattle.std.proofs.Common.{◌≡◌, inl, inr, ℕ, ◌<◌, true, List, length, Option, None, Some, Ok, Err, refl, sym, ap, subst, ◌∙◌}
use Rattle.std.specs.Prelude.{Contains, IfSome, slice_index_or}
use Rattle.std.specs.FinMap.{find}
use Rattle.volume_layout.specs.declared.layout.Layout.{Layout}
use Rattle.volume_layout.specs.Layout.{is_data}
use Rattle.run_table.specs.declared.run.Run.{Run}
use Rattle.run_table.specs.RunTable.{sectors_of}
use Rattle.run_table.specs.Space.{contains}
use Rattle.fsd_bytes.specs.declared.key.Key.{Key}
use Rattle.fsd_bytes.specs.Keys.{key_cmp}
use Rattle.fsd_bytes.specs.declared.refusal.Refusal.{Refusal}
use Rattle.fsd_bytes.specs.declared.refusal.Refusal.TheVariants as Why
use Rattle.sector_disk.specs.Machine.{Moment}
use Rattle.fsd_formats.specs.declared.entry.Entry.{Entry}
use Rattle.fsd_formats.specs.NamePage.{is_entry}
use Rattle.fsd_files.specs.Answers.{entry_of, entry_reply, found_or}
use Rattle.fsd_files.specs.Disk.{in_runs}
use Rattle.fsd_files.specs.Files.{File}
use Rattle.fsd_files.specs.Kept.{KeptIn}
use Rattle.fsd_files.specs.declared.reply.Reply.TheVariants.{Found, Refused}
use Rattle.volume_contract.specs.declared.token.Held.{Held}
use Rattle.volume_contract.specs.Causes.{IsRead, ShowsOfPages}
use Rattle.volume_contract.specs.Ends.{LooksUp}
use Rattle.volume_contract.specs.Pieces.{EndsHold, HoldsVersion, IsHeldVersion, read_at, with_opened}
use Rattle.volume_contract.specs.State.{Known, Stands, State, volume_of}
use Rattle.volume_laws.specs.State.{IsMemoryOf, state}
use Rattle.volume_laws.specs.Volume.{VolumeValue}
use Rattle.volume_laws.proofs.RangeLaws.{AreBothKept, both_kept}
use Rattle.volume_laws.proofs.EntryLaws.{entry_contained}

-- none is held
pub hold_refused : (key : Key) (k : Known) (new : VolumeValue) (now : Moment) (why : Refusal) → LooksUp (entry_reply (volume_of k) key) (Err why) → Stands state IsMemoryOf new k now → EndsHold state IsMemoryOf key k new now (Err why)
hold_refused key k new now (Why.Device s) looks stands = stands
hold_refused key k new now Why.Memory looks stands = stands
hold_refused key k new now Why.NoSuch looks stands = (by (entry_of key (volume_of k).entries) looks, stands)
  where
    by : (o : Option Entry) → found_or o ≡ Refused Why.NoSuch → o ≡ None
    by None is = refl
    by (Some e) is = absurd (cc is)
hold_refused key k new now other looks stands = absurd looks

-- the version with the key is
pub hold_done : (key : Key) (k : Known) (mid new : VolumeValue) (now : Moment) (h : Held) → LooksUp (entry_reply (volume_of k) key) (Ok (Some h.entry)) → Stands state IsMemoryOf mid k now
    → ((bytes : List ℕ) → Contains (volume_of k).entries h.entry → KeptIn now.image (in_runs k.windows) bytes h.entry.runs → Stands state IsMemoryOf new (with_opened k (read_at k.opened h.place (Some (record { runs = h.entry.runs; bytes = bytes })))) now)
    → HoldsVersion state IsMemoryOf key k new now h
hold_done key k mid new now h looks stands then =
    let there : entry_of key (volume_of k).entries ≡ Some h.entry = found (entry_of key (volume_of k).entries) looks in
    by there (find key_cmp key (volume_of k).files) refl
    (subst (λ (o : Option Entry). AreBothKept now.image (in_runs k.windows) (find key_cmp key (volume_of k).files) o) there (both_kept now.image (in_runs k.windows) key (volume_of k).files (volume_of k).entries stands.disk.described.lists stands.disk.described.kept))
  where
    found : (o : Option Entry) → found_or o ≡ Found (Some h.entry) → o ≡ Some h.entry
    found None is = absurd (cc is)
    found (Some e) is = let same : e ≡ h.entry = cc is in ap (λ (x : Entry). Some x) same

    by : entry_of key (volume_of k).entries ≡ Some h.entry → (o : Option File) → find key_cmp key (volume_of k).files ≡ o → AreBothKept now.image (in_runs k.windows) o (Some h.entry) → HoldsVersion state IsMemoryOf key k new now h
    by there None is both = absurd both
    by there (Some file) is both = record { entry = there; file = file; there = is; len = both.0; stands = then file.bytes (entry_contained key (volume_of k).entries h.entry there) both.1 }

-- the token is of the volume
pub hold_token : (s : State) (h : Held) (l : Layout) → s.layout ≡ l → is_entry h.entry ≡ true → ((t : ℕ) → contains (sectors_of h.entry.runs) t ≡ true → is_data l t ≡ true) → h.place < length s.readers
    → slice_index_or s.readers h.place None ≡ Some h.entry.runs → IsHeldVersion s h
hold_token s h l same good within inside there = record { entry = good; within = λ t here. ap (λ (x : Layout). is_data x t) same ∙ within t here; there = inside; runs = there }

-- what was read shows the same of a volume that another reader holds a version of
pub shows_held : (old mid new : State) (resident : ℕ → Option (List ℕ)) (before now : Moment) (Is : List (List ℕ) → Type 0) → (readers : List (Option (List Run))) → new ≡ record mid { readers = readers } → ShowsOfPages old mid resident before now Is → ShowsOfPages old new resident before now Is
shows_held old mid new resident before now Is readers is x = subst (λ (s : State). ShowsOfPages old s resident before now Is) (sym is) (record { read = x.read; are_read = λ page. by page (x.read page) (x.are_read page); is = x.is })
  where
    by : (page : ℕ) (o : Option (List ℕ)) → IfSome o (IsRead old mid resident before now page) → IfSome o (IsRead old (record mid { readers = readers }) resident before now page)
    by page None read = tt
    by page (Some bytes) read = record {
      within = read.within;
      source = elim read.source [
        | inl was ↦ inl was
        | inr stood ↦ inr (
          stood.0,
          elim stood.1 [
            | inl first ↦ inl first
            | inr later ↦ inr (later.0, record { a = later.1.a; b = later.1.b; copies = later.1.copies; whole = later.1.whole })
          ],
        )
      ];
    }
