use Rattle.std.proofs.Common.{string_bytes}
use Rattle.engine.proofs.FileLemmas.{files_last, if_some}
use Rattle.engine.proofs.file_words.files.Goals as goal

pub returns-in-Some-clause-form : goal.returns-in-Some-clause-form
returns-in-Some-clause-form c =
    let is = c.in-Some.ensures.form in
    if_some c.last_two.result
    (λ f last. (c.in-Some.field-0.0, c.in-Some.field-0.1, (is, files_last string_bytes c.args.words.now _ _ _ _ is.files _ is.words_are last)))
    c.last_two.ensures.form

pub returns-in-None-clause-none : goal.returns-in-None-clause-none
returns-in-None-clause-none c = λ blocks shelf from to is. c.in-None.ensures.none blocks shelf is.0
