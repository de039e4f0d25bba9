mod RunFacts
