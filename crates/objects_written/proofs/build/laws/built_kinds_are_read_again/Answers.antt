use Rattle.objects_written.proofs.KindAgain.{kind_again, manifest_known, provider_known, route_known}
use Rattle.objects_written.proofs.build.laws.built_kinds_are_read_again.Goals as goal

pub returns-clause-roas : goal.returns-clause-roas
returns-clause-roas c = kind_again c.what_is_built_is_read.ensures.spelled c.what_is_built_is_read.ensures.stay route_known

pub returns-clause-manifests : goal.returns-clause-manifests
returns-clause-manifests c = kind_again c.what_is_built_is_read.ensures.spelled c.what_is_built_is_read.ensures.stay manifest_known

pub returns-clause-aspas : goal.returns-clause-aspas
returns-clause-aspas c = kind_again c.what_is_built_is_read.ensures.spelled c.what_is_built_is_read.ensures.stay provider_known
