use Rattle.std.proofs.Common.{◌≡◌, ◌+◌, min, sym, ◌||◌, ap, ◌∙◌, subst, arith, List, ℕ}
use Rattle.std.proofs.lemmas.List.{with_items_is}
use Rattle.sector_set.specs.Bits.{is_set}
use Rattle.run_table.specs.Space.{contains}
use Rattle.sector_set.specs.SectorSet.{SectorsBelow, set_of, in_run}
use Rattle.sector_set.proofs.SetLaws.{inserted}
use Rattle.sector_set.proofs.set.SectorSet.insert.Goals as goal

pub returns : goal.returns
returns c =
    let family = λ (old : SectorsBelow). set_of c.self.inside.end (is_set c.insert.new.words) ≡ set_of old.end (λ s. contains old.sectors s || in_run c.args.run s) in
    let stop : c.stop_of-stop.result ≡ min (c.args.run.start + c.args.run.length) c.self.inside.end = c.stop_of-stop.ensures ∙ ap (λ (v : SectorsBelow). min (c.args.run.start + c.args.run.length) v.end) (sym c.self.view_is) in
    let same = with_items_is c.self.inside.words c.insert.new.words (omega arith) in
    ap (λ (w : List ℕ). set_of c.self.inside.end (is_set w)) same
    ∙ subst family c.self.view_is (inserted c.self.inside.end c.args.run c.stop_of-stop.result c.self.inside.words.items c.insert.new.words stop (rw c.deref_mut.ensures.value at c.insert.ensures))
