-- Worked examples of sectors that wait, with a reader and with a draft, computed.
use Rattle.std.proofs.Common.{◌≡◌, List, [], ◌∷◌, Some, refl, map, codes}
use Rattle.std.specs.Prelude.{Bool, true, false}
use Rattle.volume_layout.specs.declared.kind.Kind.TheVariants.{Two}
use Rattle.fsd_bytes.specs.Keys.{key_of}
use Rattle.run_table.specs.declared.run.Run.{Run}
use Rattle.run_table.specs.RunTable.{run_of}
use Rattle.fsd_formats.specs.declared.entry.Entry.{Entry}
use Rattle.fsd_files.specs.Answers.{deleted}
use Rattle.fsd_files.specs.Volume.{Volume, forced, free_count, is_free, waiting_count, waits}
use Rattle.fsd_files.specs.Waiting.{IsSpaced, is_let_go}

abbrev runs : List Run
runs = run_of 921 2 ∷ []

abbrev entry_a : Entry
entry_a = record { key = key_of (codes "a") 1; keep = 2; serial = record { epoch = 2; count = 1 }; length = 1; runs = runs }

-- one version of two sectors, which a reader holds
abbrev held : Volume
held = record {
  layout = record { sectors = 2048; third = 256; pages = 64; kind = Two; most = 0 };
  files = (key_of (codes "a") 1, record { bytes = codes "x"; keep = 2 }) ∷ [];
  entries = entry_a ∷ [];
  removed = [];
  held = runs ∷ [];
  drafts = [];
  reached = 1;
  unforced = 0;
  serial = record { epoch = 2; count = 2 };
}

abbrev gone : Volume
gone = (deleted held (key_of (codes "a") 1) 1 (Some entry_a)).1

-- free, waiting, and let go by what is forced
abbrev says : Volume → List Bool
says v = is_free v 921 ∷ waits v 921 ∷ is_let_go v 921 ∷ []

in_a_version : says held ≡ false ∷ false ∷ false ∷ []
in_a_version = refl

-- what went waits, and the disk's own table may have it
went : says gone ≡ false ∷ true ∷ false ∷ []
went = refl

-- behind the force the reader alone keeps it, so it waits still, and the disk's own table may not have it
kept_alone : says (forced gone) ≡ false ∷ true ∷ true ∷ []
kept_alone = refl

-- and then it is free
let_free : says (record (forced gone) { held = [] }) ≡ true ∷ false ∷ true ∷ []
let_free = refl

-- a delete that frees at once lets go what the disk's own table has
frees_at_once : is_let_go (record gone { removed = []; held = [] }) 921 ≡ true
frees_at_once = refl

counts : map free_count (held ∷ gone ∷ forced gone ∷ record (forced gone) { held = [] } ∷ []) ≡ 1125 ∷ 1125 ∷ 1125 ∷ 1127 ∷ []
counts = refl

waiting : map waiting_count (held ∷ gone ∷ forced gone ∷ record (forced gone) { held = [] } ∷ []) ≡ 0 ∷ 2 ∷ 2 ∷ 0 ∷ []
waiting = refl

-- a draft of what a reader has is no draft
no_draft_of_it : IsSpaced (record (forced gone) { drafts = runs ∷ [] }) → ⊥
no_draft_of_it is = let bad : true ≡ false = is.drafts 921 refl in cc

-- what went, and is a version's still, waits twice
not_twice : IsSpaced (record held { removed = 921 ∷ [] }) → ⊥
not_twice is = let bad : true ≡ false = is.removed 921 refl in cc

-- a reader has all of a version or nothing
no_part : IsSpaced (record held { held = (run_of 921 1 ∷ []) ∷ [] }) → ⊥
no_part is = let bad : false ≡ true = is.held in cc
