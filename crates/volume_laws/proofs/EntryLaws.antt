-- What is told of an entry that is looked up in a volume's table.
use Rattle.std.proofs.Common.{◌≡◌, inl, inr, ℕ, suc, Bool, true, false, cond, List, [], ◌∷◌, Option, Some, Result, Ok, Err, refl, sym, ap, subst, ◌∙◌, arith}
use Rattle.std.specs.Prelude.{Contains, IfOk, IsTrue, None, slice_index_or}
use Rattle.std.specs.Ordering.{is_eq}
use Rattle.std.specs.declared.cmp.Ordering.{Ordering}
use Rattle.std.specs.declared.cmp.Ordering.TheVariants.{Less, Equal, Greater}
use Rattle.volume_layout.specs.declared.layout.Layout.{Layout}
use Rattle.volume_layout.specs.Layout.{home_a}
use Rattle.sector_disk.specs.declared.machine.Machine.{Ghosts as MachineGhosts}
use Rattle.sector_disk.specs.Damage.{AreLost}
use Rattle.sector_disk.specs.Machine.{Moment}
use Rattle.fsd_bytes.specs.declared.key.Key.{Key}
use Rattle.fsd_bytes.specs.declared.refusal.Refusal.{Refusal}
use Rattle.fsd_bytes.specs.declared.refusal.Refusal.TheVariants as Why
use Rattle.fsd_bytes.specs.Keys.{key_cmp, same_key}
use Rattle.fsd_formats.specs.declared.entry.Entry.{Entry}
use Rattle.fsd_files.proofs.ListingLaws.{alike_is}
use Rattle.fsd_files.specs.Answers.{entry_of, entry_reply, found_or}
use Rattle.fsd_files.specs.declared.reply.Reply.{Reply}
use Rattle.fsd_files.specs.Volume.{Volume}
use Rattle.fsd_sound.specs.Homes.{AreHomesOf}
use Rattle.fsd_log.specs.Slots.{AreOfSlot}
use Rattle.log_thirds.specs.LogValue.{LogValue}
use Rattle.group_commit.specs.Newest.{AreCopiesIn as AreCopiesBy}
use Rattle.group_commit.specs.contracts.newest.NewestPageSource.TheImpl as by_log
use Rattle.name_page.specs.Pages.{outer_refusal}
use Rattle.name_btree.specs.declared.fault.TreeFault.{TreeFault}
use Rattle.name_btree.specs.declared.fault.TreeFault.TheVariants.{Pages, Broken}
use Rattle.name_btree.specs.declared.lookup.FoundEntry.{FoundEntry}
use Rattle.name_btree.specs.Fault.{outer_told}
use Rattle.page_cache.specs.Cache.{CacheValue}
use Rattle.table_pages.specs.Reads.{LosesFor, LosesPage}
use Rattle.volume_contract.specs.Causes.{AreSomeCopies, AreCopiesOfPage, IsTaken}
use Rattle.volume_contract.specs.Ends.{LooksUp, found_one}
use Rattle.volume_contract.specs.State.{Known, Stands, State}
use Rattle.cached_table.specs.Looking.{FindsEntry, LooksOnly, told_from}
use Rattle.volume_laws.specs.State.{IsMemoryOf, state}
use Rattle.volume_laws.specs.Taken.{are_taken, met_entry}
use Rattle.volume_laws.specs.Volume.{IsWholeVolume, VolumeValue}
use Rattle.volume_laws.proofs.TakenLaws.{entries_taken}

-- ---- an entry that the table has

pub entry_contained : (key : Key) (entries : List Entry) (e : Entry) → entry_of key entries ≡ Some e → Contains entries e
entry_contained key [] e is = absurd (cc is)
entry_contained key (x ∷ entries) e is = by (entry_contained key entries e) (same_key x.key key) is
  where
    by : (entry_of key entries ≡ Some e → Contains entries e) → (b : Bool) → cond b (Some x) (entry_of key entries) ≡ Some e → Contains (x ∷ entries) e
    by later true h = let same : x ≡ e = cc in (0, omega arith, same)
    by later false h = let c = later h in (suc c.0, omega (arith, c.1), c.2)

-- its sectors are taken
pub taken_there : (v w : VolumeValue) → v ≡ w → IsWholeVolume v → (k : Known) (now : Moment) → Stands state IsMemoryOf w k now → (e : Entry) → Contains k.mounted.volume.entries e → IsTrue (are_taken v e.runs)
taken_there v w is whole k now stands e has =
    let here : Stands state IsMemoryOf v k now = subst (λ (x : VolumeValue). Stands state IsMemoryOf x k now) (sym is) stands in
    entries_taken v k.mounted _ whole here.fits.layout here.holds here.fits.held here.disk.spaced here.disk.described.apart e has

-- and are told so
pub taken_met : (v : VolumeValue) (page : ℕ) (e : Entry) (r : Result Entry Refusal) → ((x : Entry) → IsTrue (are_taken v x.runs) → IsTaken (state v) x) → r ≡ met_entry v page e → IfOk r (IsTaken (state v))
taken_met v page e r told met = subst (λ (x : Result Entry Refusal). IfOk x (IsTaken (state v))) (sym met) (by (are_taken v e.runs) refl)
  where
    by : (b : Bool) → are_taken v e.runs ≡ b → IfOk (cond b (Ok e) (Err (Why.Unsound (home_a v.layout page)))) (IsTaken (state v))
    by true taken = told e taken
    by false untaken = tt

-- so it is answered
pub entry_looked_up : (v : VolumeValue) (volume : Volume) (key : Key) (page : ℕ) (e : Entry) (r : Result Entry Refusal) → entry_of key volume.entries ≡ Some e
    → ((x : Entry) → Contains volume.entries x → IsTrue (are_taken v x.runs)) → r ≡ met_entry v page e → LooksUp (entry_reply volume key) (found_one r)
entry_looked_up v volume key page e r is taken met =
    let ok : r ≡ Ok e = met ∙ ap (λ (b : Bool). cond b (Ok e) (Err (Why.Unsound (home_a v.layout page)))) (taken e (entry_contained key volume.entries e is)) in
    subst (λ (x : Result Entry Refusal). LooksUp (entry_reply volume key) (found_one x)) (sym ok) (ap found_or is)

-- it is that of its key
pub key_met : (v : VolumeValue) (key : Key) (page : ℕ) (e : Entry) (r : Result Entry Refusal) → e.key ≡ key → r ≡ met_entry v page e → IfOk r (λ x. x.key ≡ key)
key_met v key page e r same met = subst (λ (x : Result Entry Refusal). IfOk x (λ y. y.key ≡ key)) (sym met) (by (are_taken v e.runs))
  where
    by : (b : Bool) → IfOk (cond b (Ok e) (Err (Why.Unsound (home_a v.layout page)))) (λ x. x.key ≡ key)
    by true = same
    by false = tt

-- and a fault is the disk's, or a want of memory
pub fault_looked_up : (reply : Reply) (e : Option Entry) (why : Refusal) → FindsEntry e (Err why) → LooksUp reply (Err why)
fault_looked_up reply e (Why.Device s) h = tt
fault_looked_up reply e Why.Memory h = tt
fault_looked_up reply e why h = absurd h

-- ---- a page that is lost

-- the copies by the log are those by what the volume tells
pub copies_told : (v : VolumeValue) → IsWholeVolume v → (page a b : ℕ) → AreCopiesBy v.log page a b → AreCopiesOfPage (state v) page a b
copies_told v whole page a b (inl logged) = inl (subst (λ (l : Layout). AreOfSlot l (slice_index_or v.log.slots page None) a b) whole.log logged)
copies_told v whole page a b (inr (none, homes)) = inr (none, subst (λ (l : Layout). AreHomesOf l page a b) whole.log homes)

module _ {D : Type 0} (M : MachineGhosts D) (m m' : D) (v w : VolumeValue) (is : v ≡ w) (whole : IsWholeVolume v) (c : CacheValue) (log : LogValue) (of_log : log ≡ v.log) (home_a : ℕ) (a b : ℕ) where
  lost_by : (r : Result (Option FoundEntry) TreeFault) → told_from home_a r ≡ Err (Why.Lost a b) → LooksOnly M by_log.ghosts log (outer_told r) m m' v.cache c v.free_pages → LosesPage M by_log.ghosts log m' a b
  lost_by (Ok found) e looks = absurd (cc e)
  lost_by (Err (Broken page)) e looks = absurd (cc e)
  lost_by (Err (Pages refusal)) e looks =
      let same : refusal ≡ Why.Lost a b = cc in
      subst (λ (x : Refusal). LosesFor M by_log.ghosts log (outer_refusal x) m') same looks.loses

  -- both its copies are damaged
  pub lost_found : (new : State) (r : Result (Option FoundEntry) TreeFault) (result : Result (Option FoundEntry) Refusal) → result ≡ told_from home_a r → LooksOnly M by_log.ghosts log (outer_told r) m m' v.cache c v.free_pages
      → result ≡ Err (Why.Lost a b) → M.honest m' → AreLost (AreSomeCopies (state w) new) (M.now m').image a b
  lost_found new r result told_is looks is_lost honest =
      let lost : LosesPage M by_log.ghosts v.log m' a b = subst (λ (l : LogValue). LosesPage M by_log.ghosts l m' a b) of_log (lost_by r (sym told_is ∙ is_lost) looks) in
      let copies : AreLost (AreCopiesBy v.log lost.page) (M.now m').image a b = lost.lost honest in
      subst (λ (x : VolumeValue). AreLost (AreSomeCopies (state x) new) (M.now m').image a b) is
      (record {
        copies = record { page = lost.page; within = omega (arith, lost.within, ap (λ (l : Layout). l.pages) whole.log); copies = inl (copies_told v whole lost.page a b copies.copies) };
        first = copies.first;
        second = copies.second;
      })

-- ---- an entry that is met

pub entry_key : (key : Key) (entries : List Entry) (e : Entry) → entry_of key entries ≡ Some e → e.key ≡ key
entry_key key [] e is = absurd (cc is)
entry_key key (x ∷ entries) e is = by (key_cmp x.key key) refl is (entry_key key entries e)
  where
    by : (o : Ordering) → key_cmp x.key key ≡ o → cond (is_eq o) (Some x) (entry_of key entries) ≡ Some e → (entry_of key entries ≡ Some e → e.key ≡ key) → e.key ≡ key
    by Equal alike here later = let same : x ≡ e = cc here in ap (λ (y : Entry). y.key) (sym same) ∙ alike_is x.key key alike
    by Less other here later = later here
    by Greater other here later = later here

pub met_taken : (v : VolumeValue) (page : ℕ) (e x : Entry) (r : Result Entry Refusal) → r ≡ met_entry v page e → r ≡ Ok x → (x ≡ e) × (are_taken v e.runs ≡ true)
met_taken v page e x r met ok = by (are_taken v e.runs) refl (sym met ∙ ok)
  where
    by : (b : Bool) → are_taken v e.runs ≡ b → cond b (Ok e) (Err (Why.Unsound (home_a v.layout page))) ≡ Ok x → (x ≡ e) × (are_taken v e.runs ≡ true)
    by true taken is = let same : e ≡ x = cc is in (sym same, taken)
    by false untaken is = absurd (cc is)

pub met_refused : (v : VolumeValue) (page : ℕ) (e : Entry) (why : Refusal) (r : Result Entry Refusal) → r ≡ met_entry v page e → r ≡ Err why → (why ≡ Why.Unsound (home_a v.layout page)) × (are_taken v e.runs ≡ false)
met_refused v page e why r met err = by (are_taken v e.runs) refl (sym met ∙ err)
  where
    by : (b : Bool) → are_taken v e.runs ≡ b → cond b (Ok e) (Err (Why.Unsound (home_a v.layout page))) ≡ Err why → (why ≡ Why.Unsound (home_a v.layout page)) × (are_taken v e.runs ≡ false)
    by true taken is = absurd (cc is)
    by false untaken is = let same : Why.Unsound (home_a v.layout page) ≡ why = cc is in (sym same, untaken)
