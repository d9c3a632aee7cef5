use Rattle.std.proofs.Common.{ap, map, string_bytes}
use Rattle.rpki_questions.proofs.QuestionWords.{none_for}
use Rattle.rpki_questions.proofs.requests.request_of.Goals as goal

pub returns-in-None : goal.returns-in-None
returns-in-None c =
    none_for _ _ (map string_bytes c.without_flag-json.result.1.now) _ c.without_flag-json.result.0 (ap (map string_bytes) c.in-Some.ensures.cases.0) c.without_flag-json.ensures.words c.without_flag-json.ensures.none c.in-None.ensures.none
