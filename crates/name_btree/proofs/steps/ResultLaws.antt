-- What is known of a result, for more or less.
use Rattle.std.specs.Prelude.{Result, Ok, Err, IfOk, IfErr, OnOk, OnErr}
use Rattle.fsd_table.specs.Table.{BreaksTable}
use Rattle.name_page.specs.declared.pages.Pages.{Ghosts}
use Rattle.name_btree.specs.declared.fault.TreeFault.{TreeFault}
use Rattle.name_btree.specs.Fault.{BarsTable, FailsLookup, HasTreeCause, IsOnWay, ShowsCause}

pub ok_more : {X : Type 0} (r : Result X TreeFault) (P Q : X → Type 0) → ((x : X) → P x → Q x) → IfOk r P → IfOk r Q
ok_more (Ok x) P Q f h = f x h
ok_more (Err fault) P Q f h = tt

pub err_more : {X : Type 0} (r : Result X TreeFault) (P Q : TreeFault → Type 0) → ((fault : TreeFault) → P fault → Q fault) → IfErr r P → IfErr r Q
err_more (Ok x) P Q f h = tt
err_more (Err fault) P Q f h = f fault h

pub on_err : {X : Type 0} (r : Result X TreeFault) (P : TreeFault → Type 0) (Q : Type 0) → ((fault : TreeFault) → P fault → Q) → IfErr r P → OnErr r Q
on_err (Ok x) P Q f h = tt
on_err (Err fault) P Q f h = f fault h

pub err_given : {X : Type 0} (r : Result X TreeFault) (A : Type 0) (P Q R : TreeFault → Type 0) → ((fault : TreeFault) → (A → P fault) → Q fault → R fault) → (A → IfErr r P) → IfErr r Q → IfErr r R
err_given (Ok x) A P Q R f given h = tt
err_given (Err fault) A P Q R f given h = f fault given h

-- what both say of it
pub ok_both : {X : Type 0} (r : Result X TreeFault) (A : Type 0) (P Q : X → Type 0) → ((x : X) → A → P x → Q x) → OnOk r A → IfOk r P → IfOk r Q
ok_both (Ok x) A P Q f a h = f x a h
ok_both (Err fault) A P Q f a h = tt

pub on_ok_both : {X : Type 0} (r : Result X TreeFault) (A B C : Type 0) → (A → B → C) → OnOk r A → OnOk r B → OnOk r C
on_ok_both (Ok x) A B C f a b = f a b
on_ok_both (Err fault) A B C f a b = tt

-- ---- what a look-up tells

-- why it fails
pub failed_cause : {D X : Type 0} (P : Ghosts D) (old new : D) (r : Result X TreeFault) → IfErr r (FailsLookup P old new) → IfErr r (HasTreeCause (P.step new) (BreaksTable (P.step new).images) (BarsTable (P.step new)))
failed_cause P old new (Ok x) h = tt
failed_cause P old new (Err fault) h = h.cause

pub failed_shown : {D X : Type 0} (P : Ghosts D) (old new : D) (r : Result X TreeFault) → IfErr r (FailsLookup P old new) → IfErr r (ShowsCause (P.step new) BreaksTable IsOnWay)
failed_shown P old new (Ok x) h = tt
failed_shown P old new (Err fault) h = h.shown
