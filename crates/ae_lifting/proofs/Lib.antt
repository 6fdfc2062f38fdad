mod LiftingLaws
