use Rattle.fsd_sound.proofs.PagesLaws.{logged_is, home_is}
use Rattle.fsd_sound.proofs.home_laws.shown_pages_stand.Goals as goal

pub returns-clause-logged : goal.returns-clause-logged
returns-clause-logged c = λ l i t pages page x taken is lt last. logged_is l i t taken pages is page lt x last

pub returns-clause-home : goal.returns-clause-home
returns-clause-home c = λ l windows choices i t pages page x shows taken is lt none stands. home_is l i t taken pages is page lt windows choices shows none x stands
