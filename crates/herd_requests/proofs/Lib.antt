mod FieldFacts
