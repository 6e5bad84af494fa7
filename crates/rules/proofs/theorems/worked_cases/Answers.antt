use Rattle.std.proofs.Common.{refl}
use Rattle.frames.specs.Kinds.{gap}
use Rattle.layout.specs.Front.{front}
use Rattle.layout.specs.Reading.{read}
use Rattle.layout.specs.Packages.{read_all, accepts, declarations}
use Rattle.rules.specs.Cases.{Case1, Case2, Case3, Case4, Case5, Case6, Case7, Case8}
use Rattle.rules.proofs.theorems.worked_cases.Goals as goal

case1 : Case1
unfolding gap front read read_all accepts declarations
case1 = (refl, refl, refl)

case2 : Case2
unfolding gap front read read_all accepts declarations
case2 = refl

case3 : Case3
unfolding gap front read read_all accepts declarations
case3 = refl

case4 : Case4
unfolding gap front read read_all accepts declarations
case4 = (refl, refl)

case5 : Case5
unfolding gap
case5 = (refl, refl, refl)

case6 : Case6
unfolding gap front read read_all accepts declarations
case6 = refl

case7 : Case7
unfolding gap front read read_all accepts declarations
case7 = (refl, refl)

case8 : Case8
unfolding gap front read read_all accepts declarations
case8 = (refl, refl, refl, refl, refl)

pub returns : goal.returns
returns c = record { case1 = case1; case2 = case2; case3 = case3; case4 = case4; case5 = case5; case6 = case6; case7 = case7; case8 = case8 }
