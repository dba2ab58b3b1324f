use Rattle.std.proofs.Common.{inl, true, Bool, List, length, length-set, refl, ap, ◌∙◌}
use Rattle.sector_disk.proofs.CallLaws.{reads_none}
use Rattle.table_pages.specs.ReadLaws.{fills_still}
use Rattle.table_pages.proofs.StepLaws.{given_free, within_free}
use Rattle.table_pages.proofs.table.TablePages.give_back.Goals as goal

pub add-requires-clause-below : goal.add-requires-clause-below
add-requires-clause-below g c = within_free c.args.self.now c.args.page c.requires.reached.0

pub returns-clause-outside : goal.returns-clause-outside
returns-clause-outside g c =
    let t = c.args.self.now in
    record {
      reads = reads_none t.m.now (λ left h was. g.met.M.Machine.only_now t.m.now left h was);
      loses = tt;
      fills = fills_still g.M.Machine g.S.PageSource t.source.now t.m.now t.cache.now;
      source = refl;
      machine = refl;
      cache = refl;
      free = refl;
      made_over = refl;
      made_with = refl;
      count = ap (λ (f : List Bool). length f) c.add.ensures ∙ length-set t.free.now c.args.page true;
      home_a = refl;
      taken = λ page is. inl (given_free t.free.now c.add.new.self c.args.page c.add.ensures page is);
      barred = λ h place is. inl is;
    }
