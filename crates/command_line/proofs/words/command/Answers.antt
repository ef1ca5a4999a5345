use Rattle.std.proofs.Common.{codes}
use Rattle.std.proofs.lemmas.Result.{IfOk-weaker}
use Rattle.command_line.specs.CommandLine.{command_line, named}
use Rattle.command_line.proofs.ChainLemmas.{finished, more, starts}
use Rattle.command_line.proofs.words.command.Goals as goal

pub returns : goal.returns
unfolding command_line
returns c =
    let none = starts c.spinplay.result named c.spinplay.ensures.app in
    let one = more (codes "i") _ _ _ _ _ _ _ _ none c.in_ok-arg.ensures c.flag.ensures.plain c.flag.ensures.rule in
    let two = more (codes "p") _ _ _ _ _ _ _ _ one c.in_ok-arg-2.ensures c.flag-2.ensures.plain c.flag-2.ensures.rule in
    let three = more (codes "g") _ _ _ _ _ _ _ _ two c.in_ok-arg-3.ensures c.flag-3.ensures.plain c.flag-3.ensures.rule in
    let four = more (codes "l") _ _ _ _ _ _ _ _ three c.in_ok-arg-4.ensures c.flag-4.ensures.plain c.flag-4.ensures.rule in
    let five = more (codes "m") _ _ _ _ _ _ _ _ four c.in_ok-arg-5.ensures c.flag-5.ensures.plain c.flag-5.ensures.rule in
    let six = more (codes "T") _ _ _ _ _ _ _ _ five c.in_ok-arg-6.ensures c.flag-6.ensures.plain c.flag-6.ensures.rule in
    let seven = more (codes "u") _ _ _ _ _ _ _ _ six c.in_ok-arg-7.ensures c.limit.ensures.plain c.limit.ensures.rule in
    let eight = more (codes "choices") _ _ _ _ _ _ _ _ seven c.in_ok-arg-8.ensures c.file.ensures.plain c.file.ensures.rule in
    let nine = more (codes "record") _ _ _ _ _ _ _ _ eight c.in_ok-arg-9.ensures c.file-2.ensures.plain c.file-2.ensures.rule in
    let ten = more (codes "convert") _ _ _ _ _ _ _ _ nine c.in_ok-arg-10.ensures c.long_flag.ensures.plain c.long_flag.ensures.rule in
    let eleven = more (codes "check") _ _ _ _ _ _ _ _ ten c.in_ok-arg-11.ensures c.long_flag-2.ensures.plain c.long_flag-2.ensures.rule in
    let twelve = more (codes "explain") _ _ _ _ _ _ _ _ eleven c.in_ok-arg-12.ensures c.long_flag-3.ensures.plain c.long_flag-3.ensures.rule in
    let thirteen = more (codes "name") _ _ _ _ _ _ _ _ twelve c.in_ok-arg-13.ensures c.name.ensures.plain c.name.ensures.rule in
    let fourteen = more (codes "source") _ _ _ _ _ _ _ _ thirteen c.in_ok-arg-14.ensures c.file-3.ensures.plain c.file-3.ensures.rule in
    let fifteen = more (codes "lines") _ _ _ _ _ _ _ _ fourteen c.in_ok-arg-15.ensures c.file-4.ensures.plain c.file-4.ensures.rule in
    let sixteen = more (codes "prepare") _ _ _ _ _ _ _ _ fifteen c.in_ok-arg-16.ensures c.long_flag-4.ensures.plain c.long_flag-4.ensures.rule in
    let seventeen = more (codes "no-cpp") _ _ _ _ _ _ _ _ sixteen c.in_ok-arg-17.ensures c.long_flag-5.ensures.plain c.long_flag-5.ensures.rule in
    let eighteen = more (codes "D") _ _ _ _ _ _ _ _ seventeen c.in_ok-arg-18.ensures c.appended.ensures.plain c.appended.ensures.rule in
    let nineteen = more (codes "I") _ _ _ _ _ _ _ _ eighteen c.in_ok-arg-19.ensures c.appended-2.ensures.plain c.appended-2.ensures.rule in
    IfOk-weaker c.arg-20.result _ _ (λ d last.
    finished c.spinplay.result d _ (more (codes "MODEL") _ _ d _ _ _ _ _ nineteen last c.model.ensures.plain c.model.ensures.rule)
    (c.spinplay.ensures.empty.0, c.spinplay.ensures.empty.1) c.spinplay.ensures.local c.spinplay.ensures.negates (λ _. c.model.ensures.value)) c.arg-20.ensures
